-- A file that a reader is fed, piece by piece.
use Rattle.std.proofs.Common.{◌≡◌, ◌↔◌, ℕ, ◌+◌, ◌-◌, ◌<◌, ◌≤◌, ◌%◌, List, ◌++◌, Option, Some, None, Result, Ok, Err, length, take, drop, refl, sym, ◌∙◌, ap, subst, inl, inr, arith, length-append, length-take}
use Rattle.std.proofs.Math.Seq.{take-add}
use Rattle.std.proofs.lemmas.Bool.{cases_lt}
use Rattle.std.proofs.lemmas.List.{append_assoc, take_all, take-append-drop}
use Rattle.door_outside.specs.Shelf.{PieceIs}
use Rattle.door_outside.specs.declared.shelf.Piece.TheVariants as piece
use Rattle.door_outside.proofs.Fetching.{front_more}
use Rattle.qwk_blocks.specs.Packet.{FirstFault}
use Rattle.qwk_blocks.specs.Reader.{CountsMessages, HasBadCount, ReaderState, HoldsStream, next_bytes}
use Rattle.qwk_blocks.specs.declared.event.Fed.{Fed}
use Rattle.qwk_blocks.specs.declared.fault.BlocksFault.{BlocksFault}
use Rattle.qwk_blocks.specs.declared.fault.QwkFault.{QwkFault}
use Rattle.qwk_blocks.specs.declared.fault.QwkFault.TheVariants.{BadBlocks}
use Rattle.qwk_blocks.proofs.Messages.{packet_unique}
use Rattle.qwk_blocks.proofs.OneFault.{fault_unique, no_fault}
use Rattle.qwk_blocks.proofs.Reading.{fault_stays, ok_no_fault}
use Rattle.offline_reader.specs.Scan.{ScanFinds, HasFed}
use Rattle.offline_reader.specs.declared.scan.Scanned.{Scanned}
use Rattle.offline_reader.specs.declared.scan.Scanned.TheVariants.{Missing, TooLarge, Fault, Count}

-- what is taken of a piece
next_taken : (s rest : List ℕ) (used : ℕ) → used ≡ length (next_bytes s rest) → next_bytes s rest ≡ take used rest
next_taken s rest used is =
    let n : ℕ = 128 - length s % 128 in
    elim (cases_lt n (length rest)) [
      | inl lt ↦ (let same : n ≡ used = omega (arith, length-take n rest) in ap (λ k. take k rest) same)
      | inr ge ↦ take_all n rest ge ∙ sym (take_all used rest (omega (arith, length-take n rest)))
    ]

-- a feed that finds no fault
pub fed_ok : (old new : ReaderState) (s rest : List ℕ) (fed : Fed)
    → ((t : List ℕ) → HoldsStream old t → (HasBadCount t → ⊥) → HoldsStream new (t ++ next_bytes t rest))
    → ((t : List ℕ) → HoldsStream old t → fed.used ≡ length (next_bytes t rest))
    → ((t : List ℕ) → HoldsStream old t → (HasBadCount t → ⊥) → (at : ℕ) → FirstFault (t ++ next_bytes t rest) (BadBlocks at) → ◌≡◌ {A = Result Fed BlocksFault} (Ok fed) (Err record { at = at }))
    → ((t : List ℕ) → HoldsStream old t → (at : ℕ) → FirstFault t (BadBlocks at) → ◌≡◌ {A = Result Fed BlocksFault} (Ok fed) (Err record { at = at }))
    → HasFed old s → HasFed new (s ++ take fed.used rest)
fed_ok old new s rest fed holds used fault later (inl (h, sound)) =
    subst (λ (l : List ℕ). HasFed new (s ++ l)) (next_taken s rest fed.used (used s h)) (inl (holds s h sound, λ bad. ok_no_fault fed bad.0 (fault s h sound bad.0 bad.1)))
fed_ok old new s rest fed holds used fault later (inr (front, more, is, h, bad)) = absurd (ok_no_fault fed bad.0 (later front h bad.0 bad.1))

-- a feed that finds a fault, after which the rest counts as fed
pub fed_err : (old new : ReaderState) (s rest : List ℕ) (found : BlocksFault)
    → ((t : List ℕ) → HoldsStream old t → (HasBadCount t → ⊥) → HoldsStream new (t ++ next_bytes t rest))
    → ((t : List ℕ) → HoldsStream old t → (HasBadCount t → ⊥) → FirstFault (t ++ next_bytes t rest) (BadBlocks found.at))
    → ((t : List ℕ) → HoldsStream old t → (at : ℕ) → FirstFault t (BadBlocks at) → new ≡ old)
    → HasFed old s → HasFed new (s ++ rest)
fed_err old new s rest found holds fault later (inl (h, sound)) =
    let n : ℕ = 128 - length s % 128 in
    let whole : s ++ rest ≡ (s ++ take n rest) ++ drop n rest = sym (append_assoc s (take n rest) (drop n rest) ∙ ap (λ l. s ++ l) (take-append-drop n rest)) in
    inr (s ++ take n rest, drop n rest, whole, holds s h sound, (found.at, fault s h sound))
fed_err old new s rest found holds fault later (inr (front, more, is, h, bad)) =
    inr (front, more ++ rest, ap (λ l. l ++ rest) is ∙ append_assoc front more rest, subst (λ (r : ReaderState). HoldsStream r front) (sym (later front h bad.0 bad.1)) h, bad)

pub more_fed : (r : ReaderState) (s bytes : List ℕ) (at used : ℕ) → HasFed r ((s ++ take at bytes) ++ take used (drop at bytes)) → HasFed r (s ++ take (at + used) bytes)
more_fed r s bytes at used h = subst (HasFed r) (append_assoc s (take at bytes) (take used (drop at bytes)) ∙ ap (λ l. s ++ l) (sym (take-add at used bytes))) h

pub all_fed : (r : ReaderState) (s bytes : List ℕ) (at : ℕ) → HasFed r ((s ++ take at bytes) ++ drop at bytes) → HasFed r (s ++ bytes)
all_fed r s bytes at h = subst (HasFed r) (append_assoc s (take at bytes) (drop at bytes) ∙ ap (λ l. s ++ l) (take-append-drop at bytes)) h

-- what the end of a file that was fed gives
pub count_found : (r : ReaderState) (file : List ℕ) (most n : ℕ)
    → ((s : List ℕ) → HoldsStream r s → (m : ℕ) → ◌≡◌ {A = Result ℕ QwkFault} (Ok n) (Ok m) → CountsMessages s m)
    → ((s : List ℕ) → HoldsStream r s → (f : QwkFault) → FirstFault s f → ◌≡◌ {A = Result ℕ QwkFault} (Ok n) (Err f))
    → HasFed r file → length file ≤ most → ScanFinds most (Some file) (Count n)
count_found r file most n count fault (inl (h, sound)) le = (le, count file h n refl)
count_found r file most n count fault (inr (front, rest, is, h, bad)) le = let e : ◌≡◌ {A = Result ℕ QwkFault} (Ok n) (Err (BadBlocks bad.0)) = fault front h (BadBlocks bad.0) bad.1 in cc

pub fault_found : (r : ReaderState) (file : List ℕ) (most : ℕ) (found : QwkFault)
    → ((s : List ℕ) → HoldsStream r s → (f : QwkFault) → ◌≡◌ {A = Result ℕ QwkFault} (Err found) (Err f) ↔ FirstFault s f)
    → HasFed r file → length file ≤ most → ScanFinds most (Some file) (Fault found)
fault_found r file most found fault (inl (h, sound)) le = (le, (fault file h found).0 refl)
fault_found r file most found fault (inr (front, rest, is, h, bad)) le =
    let e : ◌≡◌ {A = Result ℕ QwkFault} (Err found) (Err (BadBlocks bad.0)) = (fault front h (BadBlocks bad.0)).1 bad.1 in
    let same : found ≡ BadBlocks bad.0 = cc in
    (le, subst (FirstFault file) (sym same) (subst (λ (l : List ℕ). FirstFault l (BadBlocks bad.0)) (sym is) (fault_stays front rest bad.0 bad.1)))

-- a file, or none, was fed up to a place
abbrev pub FedUpto : Option (List ℕ) → ℕ → ReaderState → Type 0
FedUpto None at r = at ≡ 0
FedUpto (Some file) at r = (at ≤ length file) × HasFed r (take at file)

-- one more piece of it
pub piece_fed : (held : Option (List ℕ)) (old new : ReaderState) (at n : ℕ) (buf got rest : List ℕ) → length got ≡ length buf → FedUpto held at old → PieceIs held at buf got (piece.Count n) → n ≤ length (got ++ rest)
    → ((s : List ℕ) → HasFed old s → HasFed new (s ++ take n (got ++ rest))) → FedUpto held (at + n) new
piece_fed None old new at n buf got rest size fed is long more = absurd is
piece_fed (Some file) old new at n buf got rest size (le, fed) is long more =
    let here : length (take at file) ≡ at = omega (arith, length-take at file) in
    let front : take at file ≡ take (length (take at file)) file = ap (λ k. take k file) (sym here) in
    let piece : PieceIs (Some file) (length (take at file)) buf got (piece.Count n) = subst (λ (k : ℕ). PieceIs (Some file) k buf got (piece.Count n)) (sym here) is in
    let all : take at file ++ take n (got ++ rest) ≡ take (length (take at file ++ take n (got ++ rest))) file = front_more (Some file) (take at file) buf got rest n size front piece in
    let len : length (take at file ++ take n (got ++ rest)) ≡ at + n = omega (arith, length-append (take at file) (take n (got ++ rest)), length-take n (got ++ rest)) in
    (omega (arith, is.there, le), subst (HasFed new) (all ∙ ap (λ k. take k file) len) (more (take at file) fed))

-- the end of the file
pub end_found : (held : Option (List ℕ)) (r : ReaderState) (at most : ℕ) (buf got : List ℕ) (found : Scanned) → FedUpto held at r → PieceIs held at buf got (piece.Count 0) → 0 < length buf → at ≤ most
    → ((file : List ℕ) → HasFed r file → length file ≤ most → ScanFinds most (Some file) found) → ScanFinds most held found
end_found None r at most buf got found fed is some le ends = absurd is
end_found (Some file) r at most buf got found (within, fed) is some le ends =
    let end : length file ≤ at = elim (is.ends refl) [ inl none ↦ omega (arith, none, some) | inr past ↦ past ] in
    ends file (subst (HasFed r) (take_all at file end) fed) (omega arith)

-- one thing is found at most
pub scan_unique : (most : ℕ) (held : Option (List ℕ)) (a b : Scanned) → ScanFinds most held a → ScanFinds most held b → a ≡ b
scan_unique most None Missing Missing x y = refl
scan_unique most None Missing TooLarge x y = absurd y
scan_unique most None Missing (Fault f) x y = absurd y
scan_unique most None Missing (Count n) x y = absurd y
scan_unique most None TooLarge b x y = absurd x
scan_unique most None (Fault f) b x y = absurd x
scan_unique most None (Count n) b x y = absurd x
scan_unique most (Some file) Missing b x y = absurd x
scan_unique most (Some file) TooLarge Missing x y = absurd y
scan_unique most (Some file) TooLarge TooLarge x y = refl
scan_unique most (Some file) TooLarge (Fault f) x y = absurd (omega (arith, y.0))
scan_unique most (Some file) TooLarge (Count n) x y = absurd (omega (arith, y.0))
scan_unique most (Some file) (Fault f) Missing x y = absurd y
scan_unique most (Some file) (Fault f) TooLarge x y = absurd (omega (arith, x.0))
scan_unique most (Some file) (Fault f) (Fault g) x y = ap Fault (fault_unique file f g x.1 y.1)
scan_unique most (Some file) (Fault f) (Count n) x y = absurd (no_fault file y.1.0 f y.1.1 x.1)
scan_unique most (Some file) (Count n) Missing x y = absurd y
scan_unique most (Some file) (Count n) TooLarge x y = absurd (omega (arith, x.0))
scan_unique most (Some file) (Count n) (Fault f) x y = absurd (no_fault file x.1.0 f x.1.1 y.1)
scan_unique most (Some file) (Count n) (Count k) x y = ap Count (sym x.1.2 ∙ (ap length (packet_unique file x.1.0 y.1.0 x.1.1 y.1.1) ∙ y.1.2))
