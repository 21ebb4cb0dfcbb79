-- A conference with its shape after a change: its slots follow the ones before, and so do its pointers.
use Rattle.std.proofs.Common.{◌≡◌, ◌≢◌, ℕ, Bool, true, false, cond, List, [], ◌∷◌, length, length-append, length-set, Option, Some, None, refl, sym, ap, ◌∙◌, subst, arith}
use Rattle.std.specs.Prelude.{option_map}
use Rattle.jam_base.specs.Contents.{Contents, pointer_of, pointers_with, reader_place, with_acknowledged, with_deleted, with_messages, with_pointer, with_reader, with_received, with_slots, receipt_to}
use Rattle.jam_base.specs.Slots.{any_due, has_live, slots_received}
use Rattle.jam_base.specs.declared.receipt.Receipt.{Receipt}
use Rattle.jam_records.specs.declared.message.Message.{Message}
use Rattle.board_laws.proofs.Readers.{PointerFollows, pointer_more, pointer_other, pointer_own}
use Rattle.board_laws.proofs.Slots.{SlotsFollow, appended_follow, deleted_follow, packed_follow, received_follow, slots_themselves}
use Rattle.jam_layout.specs.declared.shape.Shape.{Shape}
use Rattle.post_changes.proofs.slot_changes.PackLaws.{packed_pointers, packed_shape, packed_slots}
use Rattle.post_changes.specs.slot_changes.Packed.{with_packed}

-- a pointer for each reader
abbrev pub IsEven : Contents → Type 0
IsEven base = length base.conference.pointers ≡ length base.shape.readers

pub record BaseGrows (old new : Contents) : Type 0 where
  pub slots : SlotsFollow old.conference.slots new.conference.slots
  pub even : IsEven old → IsEven new

-- the pointer of the user of an id
abbrev pub pointer_in : ℕ → Contents → Option ℕ
pointer_in id base = pointer_of id base.shape.readers base.conference.pointers

pub base_itself : (base : Contents) → BaseGrows base base
base_itself base = record { slots = slots_themselves base.conference.slots; even = λ is. is }

-- ---- messages more
pub appended_grows : (messages : List Message) (base : Contents) → BaseGrows base (with_messages messages base)
appended_grows [] base = base_itself base
appended_grows (m ∷ messages) base = record { slots = appended_follow base.conference.slots (m ∷ messages); even = λ is. is }

pub appended_pointer : (id : ℕ) (messages : List Message) (base : Contents) → pointer_in id (with_messages messages base) ≡ pointer_in id base
appended_pointer id [] base = refl
appended_pointer id (m ∷ messages) base = refl

-- ---- a message deleted
pub deleted_grows : (number : ℕ) (base : Contents) → has_live number base.conference.slots ≡ true → BaseGrows base (with_deleted number base)
deleted_grows number base live = record { slots = deleted_follow number base.conference.slots live; even = λ is. is }

-- ---- a pack
pub packed_grows : (base : Contents) → BaseGrows base (with_packed base)
packed_grows base = record {
  slots = subst (SlotsFollow base.conference.slots) (sym (packed_slots base)) (packed_follow base.conference.slots);
  even = λ is. ap length (packed_pointers base) ∙ (is ∙ ap (λ (s : Shape). length s.readers) (sym (packed_shape base)));
}

pub packed_pointer : (id : ℕ) (base : Contents) → pointer_in id (with_packed base) ≡ pointer_in id base
packed_pointer id base = λ i. pointer_of id (packed_shape base i).readers (packed_pointers base i)

-- ---- a reader more
pub joined_grows : (id : ℕ) (name : List ℕ) (base : Contents) → BaseGrows base (with_reader id name base)
joined_grows id name base = record {
  slots = slots_themselves base.conference.slots;
  even = λ is. omega (arith, is, length-append base.conference.pointers (0 ∷ []), length-append base.shape.readers (record { id = id; name = name } ∷ []));
}

pub joined_pointer : (user id : ℕ) (name : List ℕ) (base : Contents) → IsEven base → PointerFollows (id ≡ user) (pointer_in user base) (pointer_in user (with_reader id name base))
joined_pointer user id name base even = pointer_more user base.shape.readers base.conference.pointers (record { id = id; name = name }) even

-- ---- messages received, and a pointer moved
received_slots : (name : List ℕ) (r : Receipt) (base : Contents) → SlotsFollow base.conference.slots (with_received name r base).conference.slots
received_slots name r base = by (any_due name r 1 base.conference.slots)
  where
    by : (due : Bool) → SlotsFollow base.conference.slots (cond due (with_slots (slots_received name r 1 base.conference.slots) base) base).conference.slots
    by true = received_follow name r 1 base.conference.slots
    by false = slots_themselves base.conference.slots

received_readers : (P : Contents → Type 0) (name : List ℕ) (r : Receipt) (base : Contents) → P (with_slots (slots_received name r 1 base.conference.slots) base) → P base → P (with_received name r base)
received_readers P name r base changed same = by (any_due name r 1 base.conference.slots)
  where
    by : (due : Bool) → P (cond due (with_slots (slots_received name r 1 base.conference.slots) base) base)
    by true = changed
    by false = same

moved_count : (place : Option ℕ) (number : ℕ) (pointers : List ℕ) → length (pointers_with place number pointers) ≡ length pointers
moved_count None number pointers = refl
moved_count (Some place) number pointers = length-set pointers place number

module _ (user : ℕ) (name : List ℕ) (high now : ℕ) (base : Contents) where
  pub read_grows : BaseGrows base (with_acknowledged user name high now base)
  read_grows = record {
    slots = received_slots name (receipt_to user high now base) base;
    even = λ is.
        let still : length (pointers_with (reader_place user base.shape.readers) high base.conference.pointers) ≡ length base.shape.readers = moved_count (reader_place user base.shape.readers) high base.conference.pointers ∙ is in
        received_readers (λ (c : Contents). IsEven (with_pointer user high c)) name (receipt_to user high now base) base still still;
  }

  pub read_pointer_other : (id : ℕ) → id ≢ user → pointer_in id (with_acknowledged user name high now base) ≡ pointer_in id base
  read_pointer_other id apart =
      let moved = pointer_other id user base.shape.readers high base.conference.pointers apart in
      received_readers (λ (c : Contents). pointer_in id (with_pointer user high c) ≡ pointer_in id base) name (receipt_to user high now base) base moved moved

  pub read_pointer_own : pointer_in user (with_acknowledged user name high now base) ≡ option_map (λ _. high) (pointer_in user base)
  read_pointer_own =
      let moved = pointer_own user base.shape.readers high base.conference.pointers in
      received_readers (λ (c : Contents). pointer_in user (with_pointer user high c) ≡ option_map (λ _. high) (pointer_in user base)) name (receipt_to user high now base) base moved moved
