-- Where in .JHR stands what changes in place (JAM message base proposal, revision 1): ModCounter and ActiveMsgs in the
-- header of the base, Reply1st and ReplyNext in that of a message, and from DateReceived on to its Attribute.
use Rattle.std.specs.Prelude.{ℕ, ◌+◌, ◌-◌, List, take, sum_by}
use Rattle.intent_journal.specs.door_outside.Disk.{written}
use Rattle.jam_records.specs.record_numbers.Numbers.{u32_text}
use Rattle.jam_records.specs.declared.message.Slot.{Slot}
use Rattle.jam_threads.specs.declared.link.LinkField.{LinkField}
use Rattle.jam_threads.specs.declared.link.LinkField.TheVariants.{First, Next}
use Rattle.jam_writing.specs.jam_layout.Sizes.{slot_header}

-- the header of the message of a number, behind that of the base and those of the messages before it
abbrev pub header_place : List Slot → ℕ → ℕ
header_place slots number = 1024 + sum_by slot_header (take (number - 1) slots)

-- in the header of a message
abbrev pub field_place : LinkField → ℕ
field_place First = 28
field_place Next = 32

-- a number of four bytes written over what stands at a place
abbrev pub with_number : ℕ → ℕ → List ℕ → List ℕ
with_number at number bytes = written bytes at (u32_text number)
