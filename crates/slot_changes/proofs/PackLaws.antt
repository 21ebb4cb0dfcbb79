-- A pack of a place: what it leaves, and that the board after it is valid.
use Rattle.std.proofs.Common.{◌≡◌, ◌≢◌, ℕ, ◌≤◌, Bool, true, false, cond, eqb, List, [], ◌∷◌, length, Option, Some, None, refl, sym, ap, ◌∙◌, subst, arith}
use Rattle.std.specs.Prelude.{All, IsSomeAnd, option_map, sum_by}
use Rattle.std.proofs.lemmas.Bool.{cond-false, eqb-true, ne_eqb}
use Rattle.std.proofs.lemmas.List.{length-map}
use Rattle.std.proofs.lemmas.List.Elements.{All-cons, All-head, All-nil, All-tail}
use Rattle.std.proofs.lemmas.List.Sums.{sum_by-cons}
use Rattle.board_changes.proofs.OneBase.{base_was, board_next, size_next}
use Rattle.board_changes.specs.Changed.{base_at, with_base}
use Rattle.board_layout.specs.Board.{Board}
use Rattle.board_layout.specs.Layout.{base_size}
use Rattle.board_layout.specs.Valid.{IsBoard}
use Rattle.board_layout.specs.jam_base.Contents.{Contents, with_slots}
use Rattle.jam_layout.specs.Messages.{IsSlot}
use Rattle.jam_layout.specs.Sizes.{slot_size}
use Rattle.jam_layout.specs.Valid.{IsConference, PointersFit}
use Rattle.jam_records.specs.declared.message.Kind.{Kind}
use Rattle.jam_records.specs.declared.message.Slot.{Slot}
use Rattle.jam_records.specs.declared.message.Slot.TheVariants.{Gone, Held}
use Rattle.slot_changes.proofs.SlotBytes.{files_length}
use Rattle.slot_changes.specs.Packed.{FitsSlots, deleted_count, is_deleted, packed, replaced, slot_packed, slots_packed, with_packed}

-- ---- slots
one_stays : (s : Slot) → cond {A = ℕ} (is_deleted s) 1 0 ≡ 0 → slot_packed s ≡ s
one_stays s none = by (is_deleted s) none
  where
    by : (d : Bool) → cond {A = ℕ} d 1 0 ≡ 0 → cond d Gone s ≡ s
    by true e = absurd (omega (arith, e))
    by false e = refl

-- where none holds a deleted message, all stay
pub none_deleted : (slots : List Slot) → deleted_count slots ≡ 0 → slots_packed slots ≡ slots
none_deleted [] none = refl
none_deleted (s ∷ slots) none =
    let more = sum_by-cons (λ (x : Slot). cond (is_deleted x) 1 0) s slots in
    let first : slot_packed s ≡ s = one_stays s (omega (arith, more, none)) in
    let others : slots_packed slots ≡ slots = none_deleted slots (omega (arith, more, none)) in
    λ i. first i ∷ others i

pub same_length : (slots : List Slot) → length (slots_packed slots) ≡ length slots
same_length slots = length-map slots slot_packed

slot_is : (kind : Kind) (s : Slot) → IsSlot kind s → IsSlot kind (slot_packed s)
slot_is kind s is = by (is_deleted s)
  where
    by : (d : Bool) → IsSlot kind (cond d Gone s)
    by true = tt
    by false = is

slots_are : (kind : Kind) (slots : List Slot) → All (IsSlot kind) slots → All (IsSlot kind) (slots_packed slots)
slots_are kind [] all = All-nil (IsSlot kind)
slots_are kind (s ∷ slots) all =
    All-cons (IsSlot kind) (slot_packed s) (slots_packed slots) (slot_is kind s (All-head (IsSlot kind) s slots all)) (slots_are kind slots (All-tail (IsSlot kind) s slots all))

one_smaller : (s : Slot) → slot_size (slot_packed s) ≤ slot_size s
one_smaller Gone = omega arith
one_smaller (Held m) = by m.deleted
  where
    by : (d : Bool) → slot_size (cond d Gone (Held m)) ≤ slot_size (Held m)
    by true = omega arith
    by false = omega arith

smaller : (slots : List Slot) → sum_by slot_size (slots_packed slots) ≤ sum_by slot_size slots
smaller [] = omega arith
smaller (s ∷ slots) = omega (arith, sum_by-cons slot_size s slots, sum_by-cons slot_size (slot_packed s) (slots_packed slots), one_smaller s, smaller slots)

-- ---- the base
module _ (base : Contents) where
  pub packed_slots : (with_packed base).conference.slots ≡ slots_packed base.conference.slots
  packed_slots = by (eqb (deleted_count base.conference.slots) 0) refl
    where
      by : (none : Bool) → eqb (deleted_count base.conference.slots) 0 ≡ none → (cond none base (with_slots (slots_packed base.conference.slots) base)).conference.slots ≡ slots_packed base.conference.slots
      by true is = sym (none_deleted base.conference.slots (eqb-true (deleted_count base.conference.slots) 0 is))
      by false is = refl

  pub packed_shape : (with_packed base).shape ≡ base.shape
  packed_shape = by (eqb (deleted_count base.conference.slots) 0)
    where
      by : (none : Bool) → (cond none base (with_slots (slots_packed base.conference.slots) base)).shape ≡ base.shape
      by true = refl
      by false = refl

  pub packed_pointers : (with_packed base).conference.pointers ≡ base.conference.pointers
  packed_pointers = by (eqb (deleted_count base.conference.slots) 0)
    where
      by : (none : Bool) → (cond none base (with_slots (slots_packed base.conference.slots) base)).conference.pointers ≡ base.conference.pointers
      by true = refl
      by false = refl

  -- where a slot holds a deleted message
  pub packed_some : deleted_count base.conference.slots ≢ 0 → with_packed base ≡ with_slots (slots_packed base.conference.slots) base
  packed_some some = cond-false (eqb (deleted_count base.conference.slots) 0) base (with_slots (slots_packed base.conference.slots) base) (ne_eqb (deleted_count base.conference.slots) 0 some)

  pub slots_valid : IsConference base.shape base.conference → IsConference base.shape (with_slots (slots_packed base.conference.slots) base).conference
  slots_valid ok =
      let same = same_length base.conference.slots in
      let few = ok.few in
      record {
        counter = omega arith;
        few = omega (arith, same, few);
        slots = slots_are base.shape.kind base.conference.slots ok.slots;
        pointers = subst (λ (n : ℕ). PointersFit n base.shape.readers base.conference.pointers) (sym same) ok.pointers;
      }

  pub packed_valid : IsConference base.shape base.conference → IsConference (with_packed base).shape (with_packed base).conference
  packed_valid ok = by (eqb (deleted_count base.conference.slots) 0)
    where
      by : (none : Bool) → IsConference (cond none base (with_slots (slots_packed base.conference.slots) base)).shape (cond none base (with_slots (slots_packed base.conference.slots) base)).conference
      by true = ok
      by false = slots_valid ok

  pub packed_smaller : base_size (with_packed base) ≤ base_size base
  packed_smaller = by (eqb (deleted_count base.conference.slots) 0)
    where
      by : (none : Bool) → base_size (cond none base (with_slots (slots_packed base.conference.slots) base)) ≤ base_size base
      by true = omega arith
      by false = omega (
        arith,
        files_length base.shape base.conference,
        files_length base.shape (with_slots (slots_packed base.conference.slots) base).conference,
        smaller base.conference.slots,
      )

-- ---- the board
pub packed_there : (b : Board) (place : ℕ) (base : Contents) → base_at place b ≡ Some base → packed place b ≡ with_base place (Some (with_packed base)) b
packed_there b place base here = ap (λ (o : Option Contents). with_base place (option_map with_packed o) b) here

pub packed_board : (b : Board) (place : ℕ) → IsBoard b → IsBoard (packed place b)
packed_board b place ok = by (base_at place b) refl
  where
    by : (o : Option Contents) → base_at place b ≡ o → IsBoard (with_base place (option_map with_packed o) b)
    by None here = ok
    by (Some base) here = board_next b place base (with_packed base) ok here (packed_shape base) (packed_valid base (base_was b place base (with_packed base) ok here (packed_shape base)))
        (omega (arith, ap length (packed_slots base), same_length base.conference.slots))
        (omega (arith, ok.small, size_next b place base (with_packed base) ok here (packed_shape base), packed_smaller base))

-- where a slot of the place holds a deleted message, it gets these slots
module _ (b : Board) (place : ℕ) (base : Contents) (here : base_at place b ≡ Some base) (some : deleted_count base.conference.slots ≢ 0) where
  pub packed_replaced : packed place b ≡ replaced place (slots_packed base.conference.slots) b
  packed_replaced =
      packed_there b place base here
      ∙ (ap (λ (c : Contents). with_base place (Some c) b) (packed_some base some)
      ∙ sym (ap (λ (o : Option Contents). with_base place (option_map (with_slots (slots_packed base.conference.slots)) o) b) here))

  pub packed_fits : IsBoard b → FitsSlots place (slots_packed base.conference.slots) b
  packed_fits ok = (
    subst (λ (o : Option Contents). IsSomeAnd o (λ (c : Contents). length c.conference.slots ≡ length (slots_packed base.conference.slots))) (sym here) (sym (same_length base.conference.slots)),
    subst IsBoard packed_replaced (packed_board b place ok),
  )
