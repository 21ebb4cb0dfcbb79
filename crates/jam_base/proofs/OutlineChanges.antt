-- Each change of a base leads to the same outline, whatever the bodies are, and puts the same bytes at the end of .JDT.
use Rattle.std.proofs.Common.{◌≡◌, ℕ, zero, suc, ◌+◌, ◌-◌, ◌<◌, ◌≤◌, Bool, true, false, cond, ◌||◌, List, [], ◌∷◌, ◌++◌, length, map, get_or, Result, refl, sym, ap, ◌∙◌, arith, append-nil}
use Rattle.std.specs.Prelude.{IfOk, ◌==◌}
use Rattle.std.specs.List.{flat_map}
use Rattle.std.proofs.Math.ListN.{set}
use Rattle.std.proofs.lemmas.Bool.{cond-true, cond-false, eqb-true}
use Rattle.std.proofs.lemmas.Grind.{flat_map-append}
use Rattle.std.proofs.lemmas.List.{length-map, map-append, map-set}
use Rattle.jam_records.specs.declared.message.Message.{Message}
use Rattle.jam_records.specs.declared.message.Slot.{Slot}
use Rattle.jam_records.specs.declared.message.Slot.TheVariants.{Gone, Held}
use Rattle.jam_threads.specs.Links.{link_of}
use Rattle.jam_writing.specs.jam_layout.Bodies.{body_piece}
use Rattle.jam_writing.specs.jam_layout.Layout.{layout}
use Rattle.jam_writing.specs.jam_layout.Outlines.{message_outline, slot_outline}
use Rattle.jam_writing.specs.jam_layout.declared.files.BaseFiles.{BaseFiles}
use Rattle.jam_writing.proofs.PieceLaws.{bodies_are}
use Rattle.jam_base.specs.Bodies.{Lengthens}
use Rattle.jam_base.specs.Change.{Turns}
use Rattle.jam_base.specs.Contents.{Contents, receipt_to, with_acknowledged, with_deleted, with_messages, with_pointer, with_reader, with_received, with_slots}
use Rattle.jam_base.specs.Outlined.{outlined, TurnsEach}
use Rattle.jam_base.specs.Slots.{any_due, has_due, has_live, is_due, numbered, slot_deleted, slot_received, slots_deleted, slots_received, slots_with_all}
use Rattle.jam_base.specs.declared.change.BaseChange.{BaseChange}
use Rattle.jam_base.specs.declared.receipt.Receipt.{Receipt}
use Rattle.jam_base.proofs.AppendPuts.{helds, all_slots_are}
use Rattle.jam_base.proofs.MarkedSlots.{deleted_files, received_files}
use Rattle.jam_base.proofs.ChangeClauses.{both_ok}
use Rattle.jam_base.proofs.OutlineTurns.{IsBlind, each, turns_each}
use Rattle.jam_base.proofs.SlotChanges.{live_above, live_within}

abbrev files_in : Contents → BaseFiles
files_in base = layout base.shape base.conference

-- a change that puts nothing there
blind_marks : (old : Contents) (change : Contents → Contents) → ((base : Contents) → outlined (change base) ≡ change (outlined base)) → ((base : Contents) → outlined base ≡ outlined old → (files_in (change base)).jdt ≡ (files_in base).jdt)
    → IsBlind old change change []
blind_marks old change outline bodies = record {
  outline = λ base e. outline base;
  bodies = λ base e. bodies base e ∙ sym (append-nil (files_in base).jdt);
}

-- ---- readers and pointers
pub joined_blind : (old : Contents) (user : ℕ) (name : List ℕ) → IsBlind old (with_reader user name) (with_reader user name) []
joined_blind old user name = blind_marks old (with_reader user name) (λ base. refl) (λ base e. refl)

pub pointed_blind : (old : Contents) (user number : ℕ) → IsBlind old (with_pointer user number) (with_pointer user number) []
pointed_blind old user number = blind_marks old (with_pointer user number) (λ base. refl) (λ base e. refl)

-- ---- messages more
pub all_outlined : (slots : List Slot) (messages : List Message) → map slot_outline (slots_with_all slots messages) ≡ slots_with_all (map slot_outline slots) (map message_outline messages)
all_outlined slots [] = refl
all_outlined slots (m ∷ messages) =
    all_outlined (slots ++ Held m ∷ []) messages ∙ ap (λ (xs : List Slot). slots_with_all xs (map message_outline messages)) (map-append slot_outline slots (Held m ∷ []))

pub appended_outline : (messages : List Message) (base : Contents) → outlined (with_messages messages base) ≡ with_messages (map message_outline messages) (outlined base)
appended_outline [] base = refl
appended_outline (m ∷ messages) base = ap (λ (xs : List Slot). with_slots xs (outlined base)) (all_outlined base.conference.slots (m ∷ messages))

appended_bodies : (messages : List Message) (base : Contents) → (files_in (with_messages messages base)).jdt ≡ (files_in base).jdt ++ flat_map body_piece (helds messages)
appended_bodies [] base = sym (append-nil (files_in base).jdt)
appended_bodies (m ∷ messages) base =
    let old : List Slot = base.conference.slots in
    let more : List Slot = helds (m ∷ messages) in
    let all : List Slot = slots_with_all old (m ∷ messages) in
    bodies_are (link_of all) 1 all
    ∙ (ap (flat_map body_piece) (all_slots_are old (m ∷ messages))
    ∙ (flat_map-append body_piece old more
    ∙ ap (λ (xs : List ℕ). xs ++ flat_map body_piece more) (sym (bodies_are (link_of old) 1 old))))

pub appended_blind : (old : Contents) (messages : List Message) → IsBlind old (with_messages messages) (with_messages (map message_outline messages)) (flat_map body_piece (helds messages))
appended_blind old messages = record {
  outline = λ base e. appended_outline messages base;
  bodies = λ base e. appended_bodies messages base;
}

-- ---- a message deleted
place_outlined : (slots : List Slot) (place : ℕ) → slot_outline (get_or slots place Gone) ≡ get_or (map slot_outline slots) place Gone
place_outlined [] place = refl
place_outlined (s ∷ slots) zero = refl
place_outlined (s ∷ slots) (suc place) = place_outlined slots place

numbered_outlined : (slots : List Slot) (number : ℕ) → slot_outline (numbered slots number) ≡ numbered (map slot_outline slots) number
numbered_outlined slots number = by (number == 0)
  where
    by : (none : Bool) → slot_outline (cond none Gone (get_or slots (number - 1) Gone)) ≡ cond none Gone (get_or (map slot_outline slots) (number - 1) Gone)
    by true = refl
    by false = place_outlined slots (number - 1)

deleted_one : (s : Slot) → slot_outline (slot_deleted s) ≡ slot_deleted (slot_outline s)
deleted_one Gone = refl
deleted_one (Held m) = refl

deleted_outlined : (slots : List Slot) (number : ℕ) → map slot_outline (slots_deleted number slots) ≡ slots_deleted number (map slot_outline slots)
deleted_outlined slots number =
    map-set slot_outline slots (number - 1) (slot_deleted (numbered slots number))
    ∙ ap (λ (s : Slot). set (map slot_outline slots) (number - 1) s) (deleted_one (numbered slots number) ∙ ap slot_deleted (numbered_outlined slots number))

count_alike : (a b : Contents) → outlined a ≡ outlined b → length a.conference.slots ≡ length b.conference.slots
count_alike a b e = sym (length-map a.conference.slots slot_outline) ∙ (ap (λ (k : Contents). length k.conference.slots) e ∙ length-map b.conference.slots slot_outline)

pub killed_blind : (old : Contents) (number : ℕ) → has_live number old.conference.slots ≡ true → IsBlind old (with_deleted number) (with_deleted number) []
killed_blind old number live =
    blind_marks old (with_deleted number)
    (λ base. ap (λ (xs : List Slot). with_slots xs (outlined base)) (deleted_outlined base.conference.slots number))
    (λ base e. let above : 0 < number = live_above number old.conference.slots live in
    let within : number ≤ length base.conference.slots = omega (arith, live_within number old.conference.slots live, count_alike base old e) in
    sym (ap (λ (f : BaseFiles). f.jdt) (deleted_files base (slots_deleted number base.conference.slots) number refl above within)))

-- ---- messages received
due_outlined : (name : List ℕ) (r : Receipt) (n : ℕ) (s : Slot) → has_due name r n (slot_outline s) ≡ has_due name r n s
due_outlined name r n Gone = refl
due_outlined name r n (Held m) = refl

any_outlined : (name : List ℕ) (r : Receipt) (n : ℕ) (slots : List Slot) → any_due name r n (map slot_outline slots) ≡ any_due name r n slots
any_outlined name r n [] = refl
any_outlined name r n (s ∷ slots) = λ i. due_outlined name r n s i || any_outlined name r (n + 1) slots i

received_one : (name : List ℕ) (r : Receipt) (n : ℕ) (s : Slot) → slot_outline (slot_received name r n s) ≡ slot_received name r n (slot_outline s)
received_one name r n Gone = refl
received_one name r n (Held m) = by (is_due name r n m)
  where
    by : (due : Bool) → slot_outline (Held (cond due (record m { seen = true; received = r.now }) m)) ≡ Held (cond due (record (message_outline m) { seen = true; received = r.now }) (message_outline m))
    by true = refl
    by false = refl

received_all : (name : List ℕ) (r : Receipt) (n : ℕ) (slots : List Slot) → map slot_outline (slots_received name r n slots) ≡ slots_received name r n (map slot_outline slots)
received_all name r n [] = refl
received_all name r n (s ∷ slots) = λ i. received_one name r n s i ∷ received_all name r (n + 1) slots i

module _ (name : List ℕ) (r : Receipt) (base : Contents) where
  either_outline : (due : Bool) (new : Contents) → outlined (cond due new base) ≡ cond due (outlined new) (outlined base)
  either_outline true new = refl
  either_outline false new = refl

  received_outline : outlined (with_received name r base) ≡ with_received name r (outlined base)
  received_outline =
      let slots : List Slot = base.conference.slots in
      either_outline (any_due name r 1 slots) (with_slots (slots_received name r 1 slots) base)
      ∙ (λ i. cond (sym (any_outlined name r 1 slots) i) (with_slots (received_all name r 1 slots i) (outlined base)) (outlined base))

  received_bodies : (files_in (with_received name r base)).jdt ≡ (files_in base).jdt
  received_bodies = by (any_due name r 1 base.conference.slots)
    where
      by : (due : Bool) → (files_in (cond due (with_slots (slots_received name r 1 base.conference.slots) base) base)).jdt ≡ (files_in base).jdt
      by true = sym (ap (λ (f : BaseFiles). f.jdt) (received_files base (slots_received name r 1 base.conference.slots) name r refl))
      by false = refl

pub received_blind : (old : Contents) (name : List ℕ) (r : Receipt) → IsBlind old (with_received name r) (with_received name r) []
received_blind old name r = blind_marks old (with_received name r) (received_outline name r) (λ base e. received_bodies name r base)

-- ---- both
pub acknowledged_blind : (old : Contents) (user : ℕ) (name : List ℕ) (upto now : ℕ) → IsBlind old (with_acknowledged user name upto now) (with_acknowledged user name upto now) []
acknowledged_blind old user name upto now =
    blind_marks old (with_acknowledged user name upto now)
    (λ base. ap (with_pointer user upto) (received_outline name (receipt_to user upto now base) base))
    (λ base e. received_bodies name (receipt_to user upto now base) base)

-- ---- as functions answer
-- a base whose slots are an outline is one
pub own_outline : (base : Contents) → map slot_outline base.conference.slots ≡ base.conference.slots → outlined base ≡ base
own_outline base same = λ i. record base { conference = record base.conference { slots = same i } }

module _ {E : Type 0} (old : Contents) (made : Contents) (r : Result BaseChange E) (base : IfOk r (λ change. change.base ≡ made)) (turns : IfOk r (λ change. Turns old.shape.place (files_in old) (files_in change.base) change.patches))
    (longer : IfOk r (λ change. Lengthens old.shape.place (files_in old) (files_in change.base) change.patches)) where
  pub joined_each : (user : ℕ) (name : List ℕ) → made ≡ with_reader user name old → IfOk r (λ change. TurnsEach old (with_reader user name) change.patches)
  joined_each user name is = turns_each old (with_reader user name) (with_reader user name) [] (joined_blind old user name) made r is base turns longer

  pub killed_each : (number : ℕ) → has_live number old.conference.slots ≡ true → made ≡ with_deleted number old → IfOk r (λ change. TurnsEach old (with_deleted number) change.patches)
  killed_each number live is = turns_each old (with_deleted number) (with_deleted number) [] (killed_blind old number live) made r is base turns longer

  pub received_each : (name : List ℕ) (receipt : Receipt) → made ≡ with_received name receipt old → IfOk r (λ change. TurnsEach old (with_received name receipt) change.patches)
  received_each name receipt is = turns_each old (with_received name receipt) (with_received name receipt) [] (received_blind old name receipt) made r is base turns longer

  pub pointed_each : (user number : ℕ) → made ≡ with_pointer user number old → IfOk r (λ change. TurnsEach old (with_pointer user number) change.patches)
  pointed_each user number is = turns_each old (with_pointer user number) (with_pointer user number) [] (pointed_blind old user number) made r is base turns longer

  pub acknowledged_each : (user : ℕ) (name : List ℕ) (upto now : ℕ) → made ≡ with_acknowledged user name upto now old → IfOk r (λ change. TurnsEach old (with_acknowledged user name upto now) change.patches)
  acknowledged_each user name upto now is =
      turns_each old (with_acknowledged user name upto now) (with_acknowledged user name upto now) [] (acknowledged_blind old user name upto now) made r is base turns longer

-- messages more, of which the bodies aren't in the base
pub appended_each : {E : Type 0} (old : Contents) (messages : List Message) (r : Result BaseChange E) → IfOk r (λ change. Turns old.shape.place (files_in old) (files_in (with_messages messages old)) change.patches)
    → IfOk r (λ change. Lengthens old.shape.place (files_in old) (files_in (with_messages messages old)) change.patches) → IfOk r (λ change. TurnsEach old (with_messages messages) change.patches)
appended_each old messages r turns longer =
    both_ok (λ (change : BaseChange). Turns old.shape.place (files_in old) (files_in (with_messages messages old)) change.patches) (λ (change : BaseChange). Lengthens old.shape.place (files_in old) (files_in (with_messages messages old)) change.patches) (λ (change : BaseChange). TurnsEach old (with_messages messages) change.patches) r
    (λ change t l. each old (with_messages messages) (with_messages (map message_outline messages)) (flat_map body_piece (helds messages)) (appended_blind old messages) change.patches t l) turns longer

-- where there is no message more, and where none is due
pub no_messages : (messages : List Message) (old : Contents) → (length messages == 0) ≡ true → old ≡ with_messages messages old
no_messages [] old none = refl
no_messages (m ∷ messages) old none = let never : suc (length messages) ≡ 0 = eqb-true (suc (length messages)) 0 none in absurd (omega (arith, never))

pub unreceived : (name : List ℕ) (r : Receipt) (old : Contents) → any_due name r 1 old.conference.slots ≡ false → old ≡ with_received name r old
unreceived name r old none = sym (cond-false (any_due name r 1 old.conference.slots) (with_slots (slots_received name r 1 old.conference.slots) old) old none)

pub some_received : (name : List ℕ) (r : Receipt) (old : Contents) → any_due name r 1 old.conference.slots ≡ true → with_slots (slots_received name r 1 old.conference.slots) old ≡ with_received name r old
some_received name r old some = sym (cond-true (any_due name r 1 old.conference.slots) (with_slots (slots_received name r 1 old.conference.slots) old) old some)
