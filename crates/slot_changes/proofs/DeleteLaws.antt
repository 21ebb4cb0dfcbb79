-- A board with a message deleted: it has the same size, and is valid.
use Rattle.std.proofs.Common.{◌≡◌, ℕ, ◌+◌, ◌-◌, ◌<◌, ◌≤◌, Bool, true, false, cond, List, [], ◌∷◌, length, get_or, set, refl, sym, ap, ◌∙◌, subst, arith}
use Rattle.std.specs.Prelude.{IsSomeAnd, option_map, Option, Some, None, sum_by}
use Rattle.std.proofs.lemmas.Bool.{cond-true}
use Rattle.std.proofs.lemmas.List.{length-set}
use Rattle.std.proofs.lemmas.List.Sums.{sum_by-set}
use Rattle.std.proofs.lemmas.Option.{slice_get_within}
use Rattle.board_changes.proofs.OneBase.{base_was, board_next, size_next}
use Rattle.board_changes.specs.Changed.{base_at, with_base}
use Rattle.board_layout.specs.Board.{Board, shapes_of}
use Rattle.board_layout.specs.Layout.{base_size, board_size}
use Rattle.board_layout.specs.Renewed.{contents}
use Rattle.board_layout.specs.Valid.{IsBoard}
use Rattle.board_layout.proofs.jam_base.SlotChanges.{deleted_is, live_above, live_within, numbered_is}
use Rattle.board_layout.specs.jam_base.Contents.{Contents, with_deleted}
use Rattle.board_layout.specs.jam_base.Slots.{has_live, slot_deleted, slots_deleted}
use Rattle.jam_layout.specs.Fields.{subfields_of}
use Rattle.jam_layout.specs.Headers.{header_size}
use Rattle.jam_layout.specs.Sizes.{slot_size}
use Rattle.jam_layout.specs.Valid.{IsConference}
use Rattle.jam_layout.specs.declared.conference.ConferenceContents.{ConferenceContents}
use Rattle.jam_layout.specs.declared.shape.Shape.{Shape}
use Rattle.jam_records.specs.declared.message.Message.{Message}
use Rattle.jam_records.specs.declared.message.Slot.{Slot}
use Rattle.jam_records.specs.declared.message.Slot.TheVariants.{Gone, Held}
use Rattle.slot_changes.proofs.SlotBytes.{files_length}
use Rattle.slot_changes.specs.Changed.{HasMessage, deleted, with_killed}

-- ---- the base
-- a mark takes no byte
same_header : (m : Message) → header_size (record m { deleted = true }) ≡ header_size m
unfolding header_size subfields_of
same_header m = refl

same_slot : (slot : Slot) → slot_size (slot_deleted slot) ≡ slot_size slot
same_slot Gone = refl
same_slot (Held m) = ap (λ n. 8 + (n + length m.body)) (same_header m)

-- the slots with one in place of that of a number
slots_are : (slots : List Slot) (number : ℕ) → has_live number slots ≡ true → slots_deleted number slots ≡ set slots (number - 1) (slot_deleted (get_or slots (number - 1) Gone))
slots_are slots number live = ap (λ (s : Slot). set slots (number - 1) (slot_deleted s)) (numbered_is slots number (live_above number slots live))

same_count : (slots : List Slot) (number : ℕ) → has_live number slots ≡ true → length (slots_deleted number slots) ≡ length slots
same_count slots number live = ap length (slots_are slots number live) ∙ length-set slots (number - 1) (slot_deleted (get_or slots (number - 1) Gone))

same_sum : (slots : List Slot) (number : ℕ) → has_live number slots ≡ true → sum_by slot_size (slots_deleted number slots) ≡ sum_by slot_size slots
same_sum slots number live =
    let slot : Slot = get_or slots (number - 1) Gone in
    omega (
      arith,
      ap (sum_by slot_size) (slots_are slots number live),
      sum_by-set slot_size slots (number - 1) (slot_deleted slot) Gone (omega (arith, live_above number slots live, live_within number slots live)),
      same_slot slot,
    )

same_bytes : (base : Contents) (number : ℕ) → has_live number base.conference.slots ≡ true → base_size (with_deleted number base) ≡ base_size base
same_bytes base number live = omega (arith, files_length base.shape base.conference, files_length base.shape (with_deleted number base).conference, same_sum base.conference.slots number live)

pub killed_is : (base : Contents) (number : ℕ) → has_live number base.conference.slots ≡ true → with_killed number base ≡ with_deleted number base
killed_is base number live = cond-true (has_live number base.conference.slots) (with_deleted number base) base live

pub killed_shape : (base : Contents) (number : ℕ) → (with_killed number base).shape ≡ base.shape
killed_shape base number = by (has_live number base.conference.slots)
  where
    by : (live : Bool) → (cond live (with_deleted number base) base).shape ≡ base.shape
    by true = refl
    by false = refl

killed_bytes : (base : Contents) (number : ℕ) → base_size (with_killed number base) ≡ base_size base
killed_bytes base number = by (has_live number base.conference.slots) refl
  where
    by : (live : Bool) → has_live number base.conference.slots ≡ live → base_size (cond live (with_deleted number base) base) ≡ base_size base
    by true is = same_bytes base number is
    by false is = refl

-- ---- the board
pub deleted_there : (b : Board) (place number : ℕ) (base : Contents) → base_at place b ≡ Some base → deleted place number b ≡ with_base place (Some (with_killed number base)) b
deleted_there b place number base here = ap (λ (o : Option Contents). with_base place (option_map (with_killed number) o) b) here

pub deleted_size : (b : Board) (place number : ℕ) → IsBoard b → board_size (deleted place number b) ≡ board_size b
deleted_size b place number ok = by (base_at place b) refl
  where
    by : (o : Option Contents) → base_at place b ≡ o → board_size (with_base place (option_map (with_killed number) o) b) ≡ board_size b
    by None here = refl
    by (Some base) here = omega (arith, size_next b place base (with_killed number base) ok here (killed_shape base number), killed_bytes base number)

-- there is no message in a place that isn't there
pub place_there : (b : Board) (place number : ℕ) → HasMessage place number b → place < length b.conferences
place_there b place number has = by (base_at place b) refl has
  where
    few : (shapes : List Shape) (conferences : List ConferenceContents) → length (contents shapes conferences) ≤ length conferences
    few [] conferences = omega arith
    few (shape ∷ shapes) [] = omega arith
    few (shape ∷ shapes) (c ∷ conferences) = omega (arith, few shapes conferences)

    by : (o : Option Contents) → base_at place b ≡ o → IsSomeAnd o (λ base. has_live number base.conference.slots ≡ true) → place < length b.conferences
    by None here is = absurd is
    by (Some base) here is = omega (arith, slice_get_within (contents (shapes_of b.ledger) b.conferences) place base here, few (shapes_of b.ledger) b.conferences)

pub deleted_board : (b : Board) (place number : ℕ) (base : Contents) → IsBoard b → base_at place b ≡ Some base → has_live number base.conference.slots ≡ true → IsBoard (deleted place number b)
deleted_board b place number base ok here live =
    let slots : List Slot = base.conference.slots in
    let shape = killed_shape base number in
    let is = killed_is base number live in
    let was = base_was b place base base ok here refl in
    let fits : IsConference base.shape (with_deleted number base).conference = deleted_is base (slots_deleted number slots) number refl (live_above number slots live) (live_within number slots live) was in
    let next = board_next b place base (with_killed number base) ok here shape
    (subst (λ (c : Contents). IsConference c.shape c.conference) (sym is) fits)
    (omega (arith, same_count slots number live, ap (λ (c : Contents). length c.conference.slots) is))
    (omega (arith, ok.small, deleted_size b place number ok, ap board_size (deleted_there b place number base here))) in
    subst IsBoard (sym (deleted_there b place number base here)) next
