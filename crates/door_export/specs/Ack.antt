-- What an acknowledgement comes to.
use Rattle.std.specs.Prelude.{ℕ, List, if◌then◌else◌, Option, Some, None, Result, Ok, Err}
use Rattle.board_layout.specs.Board.{Board}
use Rattle.mail_board.specs.Readers.{is_offered, offer_of, user_id}
use Rattle.mail_board.specs.offer_changes.Changed.{acknowledged}

-- why the user of a name acknowledges nothing
pub data AckRefusal : Type 0 where
  -- there is none
  NoUser : AckRefusal
  -- this packet isn't offered to him; the greatest number of one that is, or none
  NoPacket : Option ℕ → AckRefusal

-- the packet is acknowledged by the user of an id, where it is offered to him
abbrev pub ack_offer : ℕ → ℕ → Board → ℕ → Result Board AckRefusal
ack_offer packet now b id = if is_offered id packet b then Ok (acknowledged id packet now b) else Err (NoPacket (offer_of id b))

abbrev pub ack_as : ℕ → ℕ → Board → Option ℕ → Result Board AckRefusal
ack_as packet now b None = Err NoUser
ack_as packet now b (Some id) = ack_offer packet now b id

-- the board on which the user of a name has acknowledged a packet, or why he can't
abbrev pub ack_of : List ℕ → ℕ → ℕ → Board → Result Board AckRefusal
ack_of name packet now b = ack_as packet now b (user_id name b)

abbrev pub after_ack : Board → Result Board AckRefusal → Board
after_ack b (Ok next) = next
after_ack b (Err why) = b
