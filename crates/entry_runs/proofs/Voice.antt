-- What saying a text does to a host.
use Rattle.std.proofs.Common.{◌≡◌, ℕ, List, [], ◌++◌, take, drop, refl, sym, ◌∙◌, ap, subst, append_assoc, ◌+◌, ◌<◌, length, get_or}
use Rattle.std.proofs.lemmas.List.{append-nil, take-append-drop, drop_more}
use Rattle.std.specs.Prelude.{Result, Ok, Err, OnOk}
use Rattle.door_outside.specs.Disk.{Disk, Image, AllNow, Passes, Reached, Says, as_read}
use Rattle.door_outside.proofs.Moments.{still, joined, weaker, by_call}
use Rattle.intent_journal.specs.Hosts.{IsCalm, IsFirm, IsSettled}
use Rattle.intent_journal.specs.Journal.{IsClosed}
use Rattle.intent_journal.specs.Patches as Data
use Rattle.intent_journal.specs.Recovered.{recovered}
use Rattle.entry_runs.specs.Promise.{IsFront, AsThen}
use Rattle.entry_runs.specs.Saying.{SaysIn, Voiced, Gathers, text_of_pieces}
use Rattle.std.specs.Borrow.{Bor}

-- every image is as it could be then
pub as_now : (disk : Disk) → AllNow disk (AsThen disk)
as_now disk image left = record { before = image; could_be = left; files = refl }

pub as_before : (old mid : Disk) → AllNow mid (AsThen old) → (image : Image) → AsThen mid image → AsThen old image
as_before old mid all image then =
    let earlier = all then.before then.could_be in
    record { before = earlier.before; could_be = earlier.could_be; files = then.files ∙ earlier.files }

-- where the files are as read before, and each image's as it could be then
module _ (old new : Disk) (all : AllNow new (AsThen old)) (same : new.files ≡ old.files) where
  pub settled_then : IsSettled old → IsSettled new
  settled_then settled image left journal =
      let then = all image left in
      let here : then.before.files 1 ≡ old.files 1 = ap (λ (f : Data.HostFiles). f 1) (sym then.files) ∙ journal ∙ ap (λ (f : Data.HostFiles). f 1) same in
      ap recovered then.files ∙ settled then.before then.could_be here ∙ ap recovered (sym same)

  pub firm_then : IsFirm old → IsFirm new
  firm_then firm image left =
      let then = all image left in
      ap recovered then.files ∙ firm then.before then.could_be ∙ ap recovered (sym same)

  pub calm_then : IsCalm old → IsCalm new
  calm_then calm = record {
    closed = subst (λ (f : Data.HostFiles). IsClosed (f 1)) (sym same) calm.closed;
    kept = λ image left. let then = all image left in
        subst (Data.SameFiles image.files) (sym same) (subst (λ (f : Data.HostFiles). Data.SameFiles f old.files) (sym then.files) (calm.kept then.before then.could_be));
  }

front_of : (count : ℕ) (text : List ℕ) → IsFront (take count text) text
front_of count text = record { unheard = drop count text; whole = sym (take-append-drop count text) }

says_in : (text : List ℕ) (old : Disk) (image : Image) → Reached (Says text) old image → SaysIn text old image
says_in text old image from = record {
  files = record { before = from.0; could_be = from.1; files = from.2.files };
  heard = take from.2.said.0 text;
  part = front_of from.2.said.0 text;
  said = from.2.said.1 ∙ ap (λ (l : List ℕ). l ++ take from.2.said.0 text) (old.stays from.0 from.1);
}

told : {T E : Type 0} {tells : Type 0} (P : Type 0) (result : Result T E) → OnOk result (tells → P) → tells → OnOk result P
told P (Ok x) then tells = then tells
told P (Err e) then tells = tt

-- one call
pub voiced_by_call : {T E tells : Type 0} {text : List ℕ} {old new : Disk} (result : Result T E) → tells → Passes (Says text) (Says text) old new → Says text (as_read old) (as_read new)
    → new.wrote ≡ old.wrote → OnOk result (tells → new.said ≡ old.said ++ text) → Voiced text old new result
voiced_by_call {text = text} {old = old} {new = new} result tells call partly wrote done = record {
  moments = by_call call (says_in text old);
  now = λ image left. says_in text old image (call.now image left);
  files = partly.files;
  wrote = wrote;
  done = told (new.said ≡ old.said ++ text) result done tells;
}

longer : (a b heard : List ℕ) → IsFront heard a → IsFront heard (a ++ b)
longer a b heard part = record { unheard = part.unheard ++ b; whole = ap (λ (l : List ℕ). l ++ b) part.whole ∙ append_assoc heard part.unheard b }

behind : (a b heard : List ℕ) → IsFront heard b → IsFront (a ++ heard) (a ++ b)
behind a b heard part = record { unheard = part.unheard; whole = ap (λ (l : List ℕ). a ++ l) part.whole ∙ sym (append_assoc a heard part.unheard) }

in_longer : (a b : List ℕ) (old : Disk) (image : Image) → SaysIn a old image → SaysIn (a ++ b) old image
in_longer a b old image says = record { files = says.files; heard = says.heard; part = longer a b says.heard says.part; said = says.said }

-- the first piece failed, and nothing more is said
pub voiced_front : {T U E F : Type 0} {a : List ℕ} (b : List ℕ) {old new : Disk} {result : Result T E} {end : Result U F} → Voiced a old new result → OnOk end ⊥ → Voiced (a ++ b) old new end
voiced_front {a = a} b {old = old} {end = end} piece failed = record {
  moments = weaker piece.moments (in_longer a b old);
  now = λ image left. in_longer a b old image (piece.now image left);
  files = piece.files;
  wrote = piece.wrote;
  done = never end _ failed;
}
  where
    never : {U F : Type 0} (r : Result U F) (P : Type 0) → OnOk r ⊥ → OnOk r P
    never (Ok x) P none = absurd none
    never (Err x) P none = tt

-- one piece was said whole, and then another, whole or not
pub voiced_on : {T U E F : Type 0} {a b : List ℕ} {old mid new : Disk} {result : Result T E} {end : Result U F}
    → Voiced a old mid result → mid.said ≡ old.said ++ a → Voiced b mid new end → Voiced (a ++ b) old new end
voiced_on {a = a} {b = b} {old = old} {mid = mid} {new = new} {end = end} first said second = record {
  moments = joined (weaker first.moments (in_longer a b old)) (weaker second.moments further);
  now = λ image left. further image (second.now image left);
  files = second.files ∙ first.files;
  wrote = second.wrote ∙ first.wrote;
  done = all end second.done;
}
  where
    further : (image : Image) → SaysIn b mid image → SaysIn (a ++ b) old image
    further image says = record {
      files = as_before old mid (λ image left. (first.now image left).files) image says.files;
      heard = a ++ says.heard;
      part = behind a b says.heard says.part;
      said = says.said ∙ ap (λ (l : List ℕ). l ++ says.heard) said ∙ append_assoc old.said a says.heard;
    }

    all : {U F : Type 0} (r : Result U F) → OnOk r (new.said ≡ mid.said ++ b) → OnOk r (new.said ≡ old.said ++ (a ++ b))
    all (Ok x) is = is ∙ ap (λ (l : List ℕ). l ++ b) said ∙ append_assoc old.said a b
    all (Err x) is = tt

-- nothing is to be said
pub voiced_none : {T E : Type 0} {value : T} (disk : Disk) → Voiced {E = E} [] disk disk (Ok value)
voiced_none disk = record {
  moments = still disk _;
  now = λ image left. record {
    files = as_now disk image left;
    heard = [];
    part = record { unheard = []; whole = refl };
    said = disk.stays image left ∙ sym (append-nil disk.said);
  };
  files = refl;
  wrote = refl;
  done = sym (append-nil disk.said);
}

-- one text by another name
pub voiced_as : {T E : Type 0} {a b : List ℕ} {old new : Disk} {result : Result T E} → a ≡ b → Voiced a old new result → Voiced b old new result
voiced_as {old = old} {new = new} {result = result} is voiced = subst (λ (text : List ℕ). Voiced text old new result) is voiced

module _ {T E : Type 0} {before piece after : List ℕ} where
  -- there was room
  pub gathers_more : {value : T} (disk : Disk) → after ≡ before ++ piece → Gathers {E = E} before piece after disk disk (Ok value)
  gathers_more disk is = record { part = []; rest = before ++ piece; whole = refl; voiced = voiced_none disk; gathered = is }

  -- what was gathered wasn't said whole
  pub gathers_cut : {old new : Disk} {fault : E} → Voiced {T = T} before old new (Err fault) → Gathers {T = T} before piece after old new (Err fault)
  gathers_cut voiced = record { part = before; rest = piece; whole = refl; voiced = voiced; gathered = tt }

  -- it was said, and the piece is gathered
  pub gathers_anew : {old new : Disk} {value : T} → after ≡ piece → Voiced {E = E} before old new (Ok value) → Gathers {E = E} before piece after old new (Ok value)
  gathers_anew is voiced = record { part = before; rest = piece; whole = refl; voiced = voiced; gathered = is }

  -- both were said, the piece perhaps not whole
  pub gathers_none : {old mid new : Disk} {value : T} {spoken : Result T E} → after ≡ [] → Voiced {E = E} before old mid (Ok value) → Voiced piece mid new spoken → Gathers before piece after old new spoken
  gathers_none {spoken = spoken} is first second = record {
    part = before ++ piece;
    rest = [];
    whole = sym (append-nil (before ++ piece));
    voiced = voiced_on first first.done second;
    gathered = on_ok spoken;
  }
    where
      on_ok : (r : Result T E) → OnOk r (after ≡ [])
      on_ok (Ok x) = is
      on_ok (Err e) = tt

module _ {before : List ℕ} where
  -- nothing is added
  pub gathers_nothing : {T E : Type 0} {value : T} (disk : Disk) → Gathers {E = E} before [] before disk disk (Ok value)
  gathers_nothing disk = record { part = []; rest = before; whole = append-nil before; voiced = voiced_none disk; gathered = refl }

  -- one text by another name
  pub gathers_as : {T E : Type 0} {a b after : List ℕ} {old new : Disk} {result : Result T E} → a ≡ b → Gathers before a after old new result → Gathers before b after old new result
  gathers_as {after = after} {old = old} {new = new} {result = result} is gathers = subst (λ (text : List ℕ). Gathers before text after old new result) is gathers

  -- it was added, whatever else the call answers
  pub gathers_done : {T E U F : Type 0} {value : T} {other : U} {a after : List ℕ} {old new : Disk} → Gathers {E = E} before a after old new (Ok value) → Gathers {E = F} before a after old new (Ok other)
  gathers_done gathers = record {
    part = gathers.part;
    rest = gathers.rest;
    whole = gathers.whole;
    voiced = record { moments = gathers.voiced.moments; now = gathers.voiced.now; files = gathers.voiced.files; wrote = gathers.voiced.wrote; done = gathers.voiced.done };
    gathered = gathers.gathered;
  }

  -- one text was added, and then another, whole or not
  pub gathers_on : {T E U F : Type 0} {value : T} {a b mid after : List ℕ} {old now new : Disk} {result : Result U F}
      → Gathers {E = E} before a mid old now (Ok value) → Gathers mid b after now new result → Gathers before (a ++ b) after old new result
  gathers_on {a = a} {b = b} first second = record {
    part = first.part ++ second.part;
    rest = second.rest;
    whole =
        sym (append_assoc before a b)
        ∙ ap (λ (l : List ℕ). l ++ b) first.whole
        ∙ append_assoc first.part first.rest b
        ∙ ap (λ (l : List ℕ). first.part ++ (l ++ b)) (sym first.gathered)
        ∙ ap (λ (l : List ℕ). first.part ++ l) second.whole
        ∙ sym (append_assoc first.part second.part second.rest);
    voiced = voiced_on first.voiced first.voiced.done second.voiced;
    gathered = second.gathered;
  }

  -- the first text wasn't said whole, and nothing more is added
  pub gathers_front : {T E U F : Type 0} {fault : E} {other : F} {a mid after : List ℕ} (b : List ℕ) {old new : Disk}
      → Gathers {T = T} before a mid old new (Err fault) → Gathers {T = U} before (a ++ b) after old new (Err other)
  gathers_front {a = a} b first = record {
    part = first.part;
    rest = first.rest ++ b;
    whole = sym (append_assoc before a b) ∙ ap (λ (l : List ℕ). l ++ b) first.whole ∙ append_assoc first.part first.rest b;
    voiced = record { moments = first.voiced.moments; now = first.voiced.now; files = first.voiced.files; wrote = first.voiced.wrote; done = tt };
    gathered = tt;
  }

-- a text was gathered from nothing on, and what isn't said yet is said
pub voiced_rest : {T E U F : Type 0} {value : T} {before text left : List ℕ} {old now new : Disk} {spoken : Result U F}
    → before ≡ [] → Gathers {E = E} before text left old now (Ok value) → Voiced left now new spoken → Voiced text old new spoken
voiced_rest {text = text} none gathers voiced =
    voiced_as (sym gathers.whole ∙ ap (λ (l : List ℕ). l ++ text) none) (voiced_on gathers.voiced gathers.voiced.done (voiced_as gathers.gathered voiced))

-- it wasn't said whole before
pub voiced_cut : {T E U F : Type 0} {fault : E} {other : F} {before text left : List ℕ} {old new : Disk}
    → before ≡ [] → Gathers {T = T} before text left old new (Err fault) → Voiced {T = U} text old new (Err other)
voiced_cut {text = text} none gathers = voiced_as (sym gathers.whole ∙ ap (λ (l : List ℕ). l ++ text) none) (voiced_front gathers.rest gathers.voiced tt)

-- the text of the pieces from one on
pub text_from : (pieces : List (Bor (List ℕ))) (i : ℕ) (piece : Bor (List ℕ)) → i < length pieces → text_of_pieces (drop i pieces) ≡ (get_or pieces i piece).now ++ text_of_pieces (drop (i + 1) pieces)
text_from pieces i piece below = ap text_of_pieces (drop_more pieces i piece below)

-- The pieces before one were gathered behind what was gathered before. This is the invariant of gathering them all.
abbrev pub PiecesGathered : List (Bor (List ℕ)) → ℕ → List ℕ → List ℕ → Disk → Disk → Type 0
PiecesGathered pieces i before gathered old now =
    (front : List ℕ) × (text_of_pieces pieces ≡ front ++ text_of_pieces (drop i pieces)) × Gathers {T = Unit {0}} {E = Unit {0}} before front gathered old now (Ok tt)

-- no piece was yet
pub no_pieces : (pieces : List (Bor (List ℕ))) (before : List ℕ) (disk : Disk) → PiecesGathered pieces 0 before before disk disk
no_pieces pieces before disk = ([], refl, gathers_nothing disk)

module _ (pieces : List (Bor (List ℕ))) (i : ℕ) {before gathered : List ℕ} {old now : Disk} (so_far : PiecesGathered pieces i before gathered old now) where
  module _ (piece : Bor (List ℕ)) (below : i < length pieces) where
    next_piece : text_of_pieces pieces ≡ (so_far.0 ++ (get_or pieces i piece).now) ++ text_of_pieces (drop (i + 1) pieces)
    next_piece = so_far.1 ∙ ap (λ (l : List ℕ). so_far.0 ++ l) (text_from pieces i piece below) ∙ sym (append_assoc so_far.0 (get_or pieces i piece).now (text_of_pieces (drop (i + 1) pieces)))

    pub pieces_more : {E : Type 0} {after : List ℕ} {new : Disk} {value : Unit {0}} → Gathers {E = E} gathered (get_or pieces i piece).now after now new (Ok value) → PiecesGathered pieces (i + 1) before after old new
    pieces_more gathers = (so_far.0 ++ (get_or pieces i piece).now, next_piece, gathers_done (gathers_on so_far.2 gathers))

    pub pieces_cut : {E : Type 0} {mid after : List ℕ} {new : Disk} {fault : E} → Gathers {T = Unit {0}} gathered (get_or pieces i piece).now mid now new (Err fault) → Gathers {T = Unit {0}} before (text_of_pieces pieces) after old new (Err fault)
    pieces_cut gathers = gathers_as (sym next_piece) (gathers_front (text_of_pieces (drop (i + 1) pieces)) (gathers_on so_far.2 gathers))

  -- no piece is left
  pub all_pieces : {E : Type 0} {value : Unit {0}} → drop i pieces ≡ [] → Gathers {E = E} before (text_of_pieces pieces) gathered old now (Ok value)
  all_pieces none =
      gathers_as (sym (so_far.1 ∙ ap (λ (ps : List (Bor (List ℕ))). so_far.0 ++ text_of_pieces ps) none ∙ append-nil so_far.0)) (gathers_done so_far.2)
