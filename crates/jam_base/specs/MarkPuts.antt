-- Marks of messages that change in place, as patches.
use Rattle.std.specs.Prelude.{ℕ, ◌+◌, ◌*◌, List, [], ◌∷◌, ◌++◌, true, nat_lt, if◌then◌else◌}
use Rattle.intent_journal.specs.declared.patch.Patch.{Patch}
use Rattle.intent_journal.specs.declared.patch.Patch.TheVariants.{Put, Whole}
use Rattle.intent_journal.specs.door_outside.File.{jhr_file, jlr_file}
use Rattle.jam_records.specs.record_numbers.Numbers.{u32s_text}
use Rattle.jam_records.specs.declared.message.Kind.{Kind}
use Rattle.jam_records.specs.declared.message.Message.{Message}
use Rattle.jam_records.specs.declared.message.Slot.{Slot}
use Rattle.jam_records.specs.declared.message.Slot.TheVariants.{Gone, Held}
use Rattle.jam_writing.specs.jam_layout.Headers.{marks_in}
use Rattle.jam_writing.specs.jam_layout.Layout.{layout}
use Rattle.jam_writing.specs.jam_layout.Marks.{attribute_of}
use Rattle.jam_writing.specs.jam_layout.Sizes.{slot_header}
use Rattle.jam_base.specs.Contents.{Contents}
use Rattle.jam_base.specs.Places.{header_place}
use Rattle.jam_base.specs.Slots.{is_due}
use Rattle.jam_base.specs.declared.receipt.Receipt.{Receipt}

-- DateReceived, DateProcessed, MessageNumber and Attribute, which stand next to each other
abbrev pub marks_text : Kind → ℕ → Message → List ℕ
marks_text kind number m = u32s_text (m.received ∷ m.processed ∷ number ∷ attribute_of kind (marks_in m) ∷ [])

-- those of the message of a number, whose header stands at a place
abbrev pub marks_put : Kind → ℕ → ℕ → ℕ → Message → Patch
marks_put kind place at number m = Put (jhr_file place) (at + 40) (marks_text kind number m)

-- the message of a number marked deleted, whose header stands at a place
abbrev pub delete_put : Kind → ℕ → ℕ → ℕ → Slot → List Patch
delete_put kind place at number Gone = []
delete_put kind place at number (Held m) = marks_put kind place at number (record m { deleted = true }) ∷ []

abbrev pub delete_puts : Kind → ℕ → List Slot → ℕ → Slot → List Patch
delete_puts kind place slots number s = delete_put kind place (header_place slots number) number s

-- the messages that are due marked read, from the slot of a number on, whose header stands or would stand at a place
abbrev pub receive_put : Kind → ℕ → List ℕ → Receipt → ℕ → ℕ → Slot → List Patch
receive_put kind place name r at number Gone = []
receive_put kind place name r at number (Held m) = if is_due name r number m then marks_put kind place at number (record m { seen = true; received = r.now }) ∷ [] else []

abbrev pub receive_puts : Kind → ℕ → List ℕ → Receipt → ℕ → ℕ → List Slot → List Patch
receive_puts kind place name r at number [] = []
receive_puts kind place name r at number (s ∷ slots) = receive_put kind place name r at number s ++ receive_puts kind place name r (at + slot_header s) (number + 1) slots

-- bytes from a place on in the record of the reader in a place from 0
abbrev pub record_put : ℕ → ℕ → ℕ → List ℕ → Patch
record_put place reader at bytes = Put (jlr_file place) (16 * reader + at) bytes

-- those, which a base has there; as a patch ends below 2 ^ 31, the whole .JLR is written where the record would end
-- behind that
abbrev pub record_patch : Contents → ℕ → ℕ → List ℕ → Patch
record_patch base reader at bytes =
    if nat_lt reader 0x7FF_FFFF then record_put base.shape.place reader at bytes else Whole (jlr_file base.shape.place) (layout base.shape base.conference).jlr

-- both numbers of that record
abbrev pub pointer_put : ℕ → ℕ → ℕ → Patch
pointer_put place reader number = record_put place reader 8 (u32s_text (number ∷ number ∷ []))

-- the pointer of that reader, which a base has there
abbrev pub pointer_patch : Contents → ℕ → ℕ → Patch
pointer_patch base reader number = record_patch base reader 8 (u32s_text (number ∷ number ∷ []))
