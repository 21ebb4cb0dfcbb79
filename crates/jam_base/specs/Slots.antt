-- The slots of a conference after a change of them. The slot in place i, from 0, has the message number i + 1.
use Rattle.std.specs.Prelude.{ℕ, ◌+◌, ◌-◌, List, [], ◌∷◌, ◌++◌, fold, slice_index_or, slice_set, Bool, true, false, not, ◌&&◌, ◌||◌, ◌==◌, nat_lt, nat_le, if◌then◌else◌}
use Rattle.std.specs.Str.{str_eq_ignore_ascii_case}
use Rattle.jam_records.specs.declared.message.Message.{Message}
use Rattle.jam_records.specs.declared.message.Slot.{Slot}
use Rattle.jam_records.specs.declared.message.Slot.TheVariants.{Gone, Held}
use Rattle.jam_writing.specs.jam_layout.Conference.{is_live}
use Rattle.jam_base.specs.declared.receipt.Receipt.{Receipt}

-- what a message number stands for, where it has a slot, and else Gone
abbrev pub numbered : List Slot → ℕ → Slot
numbered slots number = if number == 0 then Gone else slice_index_or slots (number - 1) Gone

-- ---- messages more
-- one message at the end
abbrev pub slots_with : List Slot → Message → List Slot
slots_with slots message = slots ++ Held message ∷ []

-- the messages at the end, one after the other
abbrev pub slots_with_all : List Slot → List Message → List Slot
slots_with_all slots messages = fold slots_with slots messages

-- ---- a message deleted
-- the number is that of a message that isn't deleted
abbrev pub has_live : ℕ → List Slot → Bool
has_live number slots = is_live (numbered slots number)

abbrev pub slot_deleted : Slot → Slot
slot_deleted Gone = Gone
slot_deleted (Held message) = Held (record message { deleted = true })

-- the message of a number has the mark deleted
abbrev pub slots_deleted : ℕ → List Slot → List Slot
slots_deleted number slots = slice_set slots (number - 1) (slot_deleted (numbered slots number))

-- ---- messages received
-- a message to the name, ignoring case, that isn't deleted and isn't read, with a number above one bound and
-- at most the other
abbrev pub is_due : List ℕ → Receipt → ℕ → Message → Bool
is_due name r number message =
    str_eq_ignore_ascii_case message.to name && ((not message.deleted && not message.seen) && (nat_lt r.above number && nat_le number r.upto))

abbrev pub has_due : List ℕ → Receipt → ℕ → Slot → Bool
has_due name r number Gone = false
has_due name r number (Held message) = is_due name r number message

-- such a message gets the mark read and the moment
abbrev pub message_received : List ℕ → Receipt → ℕ → Message → Message
message_received name r number message = if is_due name r number message then record message { seen = true; received = r.now } else message

abbrev pub slot_received : List ℕ → Receipt → ℕ → Slot → Slot
slot_received name r number Gone = Gone
slot_received name r number (Held message) = Held (message_received name r number message)

-- one of the slots, the first of which has this number, holds such a message
abbrev pub any_due : List ℕ → Receipt → ℕ → List Slot → Bool
any_due name r number [] = false
any_due name r number (s ∷ slots) = has_due name r number s || any_due name r (number + 1) slots

-- the slots, the first of which has this number, with all such messages received
abbrev pub slots_received : List ℕ → Receipt → ℕ → List Slot → List Slot
slots_received name r number [] = []
slots_received name r number (s ∷ slots) = slot_received name r number s ∷ slots_received name r (number + 1) slots
