-- The messages of a conference that aren't deleted.
use Rattle.std.specs.Prelude.{ℕ, List, Bool, false, not, count_by}
use Rattle.jam_records.specs.declared.message.Slot.{Slot}
use Rattle.jam_records.specs.declared.message.Slot.TheVariants.{Gone, Held}

-- the slot holds a message that isn't deleted
abbrev pub is_live : Slot → Bool
is_live Gone = false
is_live (Held message) = not message.deleted

abbrev pub live_count : List Slot → ℕ
live_count slots = count_by is_live slots
