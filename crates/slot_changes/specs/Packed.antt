-- Boards after their deleted messages gave their room back, and after any other slots in a place.
use Rattle.std.specs.Prelude.{◌≡◌, ℕ, List, length, map, count_by, option_map, IsSomeAnd, Bool, false, ◌==◌, if◌then◌else◌}
use Rattle.std.specs.Option.{option_map_or}
use Rattle.board_changes.specs.Changed.{base_at, with_base}
use Rattle.board_layout.specs.Board.{Board}
use Rattle.board_layout.specs.Valid.{IsBoard}
use Rattle.board_layout.specs.jam_base.Contents.{Contents, with_slots}
use Rattle.jam_records.specs.declared.message.Slot.{Slot}
use Rattle.jam_records.specs.declared.message.Slot.TheVariants.{Gone, Held}

-- ---- other slots
-- the board with these slots in a place, by one change
abbrev pub replaced : ℕ → List Slot → Board → Board
replaced place slots b = with_base place (option_map (with_slots slots) (base_at place b)) b

-- the place is there, and has so many slots
abbrev pub HasSlots : ℕ → ℕ → Board → Type 0
HasSlots place count b = IsSomeAnd (base_at place b) (λ base. length base.conference.slots ≡ count)

-- the place is there, the slots are as many as it has, and the board with them is valid
abbrev pub FitsSlots : ℕ → List Slot → Board → Type 0
FitsSlots place slots b = HasSlots place (length slots) b × IsBoard (replaced place slots b)

-- ---- a pack
-- the slot holds a deleted message
abbrev pub is_deleted : Slot → Bool
is_deleted Gone = false
is_deleted (Held message) = message.deleted

-- a slot that does becomes Gone, and any other stays
abbrev pub slot_packed : Slot → Slot
slot_packed slot = if is_deleted slot then Gone else slot

abbrev pub slots_packed : List Slot → List Slot
slots_packed slots = map slot_packed slots

-- how many become Gone
abbrev pub deleted_count : List Slot → ℕ
deleted_count slots = count_by is_deleted slots

-- the base after it: where no slot becomes Gone, nothing changes
abbrev pub with_packed : Contents → Contents
with_packed base = if deleted_count base.conference.slots == 0 then base else with_slots (slots_packed base.conference.slots) base

-- the board whose deleted messages in a place gave their room back
abbrev pub packed : ℕ → Board → Board
packed place b = with_base place (option_map with_packed (base_at place b)) b

-- how many slots of the place become Gone
abbrev pub packed_count : ℕ → Board → ℕ
packed_count place b = option_map_or (λ base. deleted_count base.conference.slots) (base_at place b) 0
