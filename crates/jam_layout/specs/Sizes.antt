-- How many bytes the parts of a conference have in its files.
use Rattle.std.specs.Prelude.{ℕ, ◌+◌, length}
use Rattle.jam_records.specs.declared.message.Slot.{Slot}
use Rattle.jam_records.specs.declared.message.Slot.TheVariants.{Gone, Held}
use Rattle.jam_layout.specs.Headers.{header_size}

-- the header of what a slot holds, with its subfields
abbrev pub slot_header : Slot → ℕ
slot_header Gone = 0
slot_header (Held message) = header_size message

-- its header, its body and its index record
abbrev pub slot_size : Slot → ℕ
slot_size Gone = 8
slot_size (Held message) = 8 + (header_size message + length message.body)
