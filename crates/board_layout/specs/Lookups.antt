-- What is looked up in a board.
use Rattle.std.specs.Prelude.{ℕ, ◌-◌, List, [], position, slice_get, Option, Some, None, option_and_then, option_map, unwrap_or, ◌==◌, if◌then◌else◌}
use Rattle.board_ledger.specs.declared.user.User.{User}
use Rattle.board_layout.specs.Board.{Board}
use Rattle.board_layout.specs.Renewed.{contents_of}
use Rattle.jam_base.specs.Contents.{pointer_of}
use Rattle.jam_base.specs.Slots.{numbered}
use Rattle.jam_records.specs.declared.message.Message.{Message}
use Rattle.jam_records.specs.declared.message.Slot.{Slot}
use Rattle.jam_records.specs.declared.message.Slot.TheVariants.{Gone, Held}

-- the user of an id, from 1
abbrev pub user_of : ℕ → Board → Option User
user_of id b = if id == 0 then None else slice_get b.ledger.users (id - 1)

-- the last-read pointer of the user of an id in the conference in a place
abbrev pub pointer_at : ℕ → ℕ → Board → Option ℕ
pointer_at place id b = option_and_then (λ base. pointer_of id base.shape.readers base.conference.pointers) (slice_get (contents_of b) place)

-- the place of the conference of a number
abbrev pub place_of : ℕ → Board → Option ℕ
place_of number b = position (λ c. c.number == number) b.ledger.setup.conferences

-- the slots of the conference in a place, none where no conference is there
abbrev pub slots_in : Board → ℕ → List Slot
slots_in b place = unwrap_or (option_map (λ c. c.slots) (slice_get b.conferences place)) []

-- the message that a slot holds
abbrev pub held_in : Slot → Option Message
held_in Gone = None
held_in (Held message) = Some message

-- the message of a number in a place
abbrev pub message_at : Board → ℕ → ℕ → Option Message
message_at b place number = held_in (numbered (slots_in b place) number)
