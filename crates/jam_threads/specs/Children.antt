-- The originals and the children of messages, over whole lists of slots.
-- The slot in place i, from 0, has the message number i + 1. The number 0 stands for no message.
use Rattle.std.specs.Prelude.{ℕ, zero, suc, ◌+◌, List, [], ◌∷◌, ◌++◌, length, take, slice_get, filter, position, Option, Some, None, Bool, false, ◌==◌}
use Rattle.std.specs.Str.{bytes_eq}
use Rattle.jam_records.specs.declared.message.Slot.{Slot}
use Rattle.jam_records.specs.declared.message.Slot.TheVariants.{Gone, Held}

-- the slot holds a message of this id
abbrev pub has_msgid : List ℕ → Slot → Bool
has_msgid id Gone = false
has_msgid id (Held message) = bytes_eq message.msgid id

-- the number of the slot in a place
abbrev pub number_at : Option ℕ → ℕ
number_at None = 0
number_at (Some place) = place + 1

-- the smallest number of a message of this id
abbrev pub first_of_id : List Slot → List ℕ → ℕ
first_of_id slots id = number_at (position (has_msgid id) slots)

-- the original of a message that stands behind these slots and answers this id: none where the id is empty
abbrev pub original_behind : List Slot → List ℕ → ℕ
original_behind before [] = 0
original_behind before (b ∷ id) = first_of_id before (b ∷ id)

-- the original of what a slot behind these holds
abbrev pub slot_original : List Slot → Option Slot → ℕ
slot_original before None = 0
slot_original before (Some Gone) = 0
slot_original before (Some (Held message)) = original_behind before message.replyid

-- the original of the message of a number
unfoldable pub original : List Slot → ℕ → ℕ
original slots zero = 0
original slots (suc place) = slot_original (take place slots) (slice_get slots place)

-- the numbers from 1
unfoldable pub numbers_to : ℕ → List ℕ
numbers_to zero = []
numbers_to (suc n) = numbers_to n ++ suc n ∷ []

-- the messages whose original has this number, rising
unfoldable pub children : List Slot → ℕ → List ℕ
children slots number = filter (λ k. original slots k == number) (numbers_to (length slots))
