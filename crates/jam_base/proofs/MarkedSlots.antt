-- A change of marks alone leaves .JDT, .JDX and .JLR: the bodies, the recipients and the lengths of headers are the same.
use Rattle.std.proofs.Common.{◌≡◌, ℕ, suc, zero, Bool, true, false, cond, ◌+◌, ◌-◌, ◌≤◌, ◌<◌, List, [], ◌∷◌, ◌++◌, length, get_or, refl, sym, ap, ◌∙◌, subst, arith}
use Rattle.std.specs.Prelude.{sum_by}
use Rattle.std.proofs.lemmas.List.Sums.{sum_by-cons}
use Rattle.std.specs.List.{flat_map}
use Rattle.std.proofs.Math.ListN.{set}
use Rattle.jam_records.specs.declared.message.Message.{Message}
use Rattle.jam_records.specs.declared.message.Slot.{Slot}
use Rattle.jam_records.specs.declared.message.Slot.TheVariants.{Gone, Held}
use Rattle.jam_threads.specs.Links.{link_of}
use Rattle.jam_writing.specs.jam_layout.Fields.{subfields_of}
use Rattle.jam_writing.specs.jam_layout.Headers.{header_size}
use Rattle.jam_writing.specs.jam_layout.Bodies.{bodies_text}
use Rattle.jam_writing.specs.jam_layout.Index.{index_records}
use Rattle.jam_writing.specs.jam_layout.Layout.{layout, entries_of}
use Rattle.jam_writing.specs.jam_layout.Sizes.{slot_header}
use Rattle.jam_writing.specs.jam_layout.declared.files.BaseFiles.{BaseFiles}
use Rattle.jam_writing.specs.Pieces.{body_piece, index_piece}
use Rattle.jam_writing.proofs.PieceLaws.{bodies_are, index_more}
use Rattle.jam_base.specs.Contents.{Contents, with_slots}
use Rattle.jam_base.specs.Slots.{slot_deleted, slots_deleted, is_due, slot_received, slots_received}
use Rattle.jam_base.specs.declared.receipt.Receipt.{Receipt}
use Rattle.jam_base.proofs.SlotChanges.{numbered_is}

-- ---- slots that differ in marks alone
pub record Marked (old new : Slot) : Type 0 where
  pub body : body_piece new ≡ body_piece old
  pub size : slot_header new ≡ slot_header old
  pub index : (at : ℕ) → index_piece at new ≡ index_piece at old

abbrev AllMarked : List Slot → List Slot → Type 0
AllMarked [] [] = Unit {0}
AllMarked [] (t ∷ ts) = ⊥
AllMarked (s ∷ ss) [] = ⊥
AllMarked (s ∷ ss) (t ∷ ts) = Marked s t × AllMarked ss ts

unmarked : (s : Slot) → Marked s s
unmarked s = record { body = refl; size = refl; index = λ at. refl }

all_unmarked : (slots : List Slot) → AllMarked slots slots
all_unmarked [] = tt
all_unmarked (s ∷ slots) = (unmarked s, all_unmarked slots)

one_marked : (slots : List Slot) (place : ℕ) (d new : Slot) → place < length slots → Marked (get_or slots place d) new → AllMarked slots (set slots place new)
one_marked [] place d new within marked = absurd (omega (arith, within))
one_marked (s ∷ slots) zero d new within marked = (marked, all_unmarked slots)
one_marked (s ∷ slots) (suc place) d new within marked = (unmarked s, one_marked slots place d new (omega (arith, within)) marked)

same_bodies : (old new : List Slot) → AllMarked old new → flat_map body_piece new ≡ flat_map body_piece old
same_bodies [] [] marked = refl
same_bodies [] (t ∷ ts) marked = absurd marked
same_bodies (s ∷ ss) [] marked = absurd marked
same_bodies (s ∷ ss) (t ∷ ts) marked = ap (λ xs. xs ++ flat_map body_piece ts) marked.0.body ∙ ap (λ xs. body_piece s ++ xs) (same_bodies ss ts marked.1)

same_index : (at : ℕ) (old new : List Slot) → AllMarked old new → index_records at new ≡ index_records at old
same_index at [] [] marked = refl
same_index at [] (t ∷ ts) marked = absurd marked
same_index at (s ∷ ss) [] marked = absurd marked
same_index at (s ∷ ss) (t ∷ ts) marked =
    index_more at t ts
    ∙ (ap (λ xs. xs ++ index_records (at + slot_header t) ts) (marked.0.index at)
    ∙ (ap (λ n. index_piece at s ++ index_records (at + n) ts) marked.0.size
    ∙ (ap (λ xs. index_piece at s ++ xs) (same_index (at + slot_header s) ss ts marked.1) ∙ sym (index_more at s ss))))

same_sizes : (old new : List Slot) → AllMarked old new → sum_by slot_header new ≡ sum_by slot_header old
same_sizes [] [] marked = refl
same_sizes [] (t ∷ ts) marked = absurd marked
same_sizes (s ∷ ss) [] marked = absurd marked
same_sizes (s ∷ ss) (t ∷ ts) marked = omega (arith, marked.0.size, same_sizes ss ts marked.1, sum_by-cons slot_header s ss, sum_by-cons slot_header t ts)

-- the new files are the old ones with another .JHR
marked_files : (base : Contents) (slots : List Slot) → AllMarked base.conference.slots slots
    → record (layout base.shape base.conference) { jhr = (layout base.shape (with_slots slots base).conference).jhr } ≡ layout base.shape (with_slots slots base).conference
marked_files base slots marked =
    let old : List Slot = base.conference.slots in
    let jdt : bodies_text (entries_of (link_of old) 1 old) ≡ bodies_text (entries_of (link_of slots) 1 slots) =
    bodies_are (link_of old) 1 old ∙ (sym (same_bodies old slots marked) ∙ sym (bodies_are (link_of slots) 1 slots)) in
    let jdx : index_records 1024 old ≡ index_records 1024 slots = sym (same_index 1024 old slots marked) in
    let new : BaseFiles = layout base.shape (with_slots slots base).conference in
    λ i. record { jhr = new.jhr; jdt = jdt i; jdx = jdx i; jlr = new.jlr }

-- ---- a message deleted
size_deleted : (m : Message) → header_size (record m { deleted = true }) ≡ header_size m
unfolding header_size subfields_of
size_deleted m = refl

pub deleted_marked : (s : Slot) → Marked s (slot_deleted s)
deleted_marked Gone = unmarked Gone
deleted_marked (Held m) = record { body = refl; size = size_deleted m; index = λ at. refl }

pub deleted_files : (base : Contents) (slots : List Slot) (number : ℕ) → slots ≡ slots_deleted number base.conference.slots → 0 < number → number ≤ length base.conference.slots
    → record (layout base.shape base.conference) { jhr = (layout base.shape (with_slots slots base).conference).jhr } ≡ layout base.shape (with_slots slots base).conference
deleted_files base slots number is above within =
    let old : List Slot = base.conference.slots in
    let s : Slot = get_or old (number - 1) Gone in
    let made : AllMarked old (set old (number - 1) (slot_deleted s)) = one_marked old (number - 1) Gone (slot_deleted s) (omega (arith, above, within)) (deleted_marked s) in
    let same : slots ≡ set old (number - 1) (slot_deleted s) = is ∙ ap (λ (x : Slot). set old (number - 1) (slot_deleted x)) (numbered_is old number above) in
    marked_files base slots (subst (AllMarked old) (sym same) made)

-- ---- messages received
size_received : (m : Message) (now : ℕ) → header_size (record m { seen = true; received = now }) ≡ header_size m
unfolding header_size subfields_of
size_received m now = refl

received_one : (name : List ℕ) (r : Receipt) (m : Message) (due : Bool) → Marked (Held m) (Held (cond due (record m { seen = true; received = r.now }) m))
received_one name r m true = record { body = refl; size = size_received m r.now; index = λ at. refl }
received_one name r m false = unmarked (Held m)

pub received_marked : (name : List ℕ) (r : Receipt) (n : ℕ) (s : Slot) → Marked s (slot_received name r n s)
received_marked name r n Gone = unmarked Gone
received_marked name r n (Held m) = received_one name r m (is_due name r n m)

all_received : (name : List ℕ) (r : Receipt) (n : ℕ) (slots : List Slot) → AllMarked slots (slots_received name r n slots)
all_received name r n [] = tt
all_received name r n (s ∷ slots) = (received_marked name r n s, all_received name r (n + 1) slots)

pub received_files : (base : Contents) (slots : List Slot) (name : List ℕ) (r : Receipt) → slots ≡ slots_received name r 1 base.conference.slots
    → record (layout base.shape base.conference) { jhr = (layout base.shape (with_slots slots base).conference).jhr } ≡ layout base.shape (with_slots slots base).conference
received_files base slots name r is = marked_files base slots (subst (AllMarked base.conference.slots) (sym is) (all_received name r 1 base.conference.slots))

pub received_sizes : (slots : List Slot) (name : List ℕ) (r : Receipt) (n : ℕ) → sum_by slot_header (slots_received name r n slots) ≡ sum_by slot_header slots
received_sizes slots name r n = same_sizes slots (slots_received name r n slots) (all_received name r n slots)

pub deleted_sizes : (slots : List Slot) (place : ℕ) → place < length slots → sum_by slot_header (set slots place (slot_deleted (get_or slots place Gone))) ≡ sum_by slot_header slots
deleted_sizes slots place within = same_sizes slots (set slots place (slot_deleted (get_or slots place Gone))) (one_marked slots place Gone (slot_deleted (get_or slots place Gone)) within (deleted_marked (get_or slots place Gone)))
