-- Kept: what is offered to a user is offered again until he acknowledges a packet.
use Rattle.std.specs.Prelude.{◌≡◌, ◌≤◌, ◌<◌, ℕ, List, Contains, IsTrue, Some}
use Rattle.cmd_messages.specs.cmd_board.State.{State}
use Rattle.board_layout.specs.Board.{Board}
use Rattle.board_laws.specs.BoardCommand.{BoardCommand, Ack}
use Rattle.board_laws.specs.History.{Deed, Steps, IsBeginning, IsHistory, IsCarriedOut, LeadsTo}
use Rattle.jam_base.specs.Slots.{has_live}
use Rattle.cmd_messages.specs.mail_board.Readers.{user_id}
use Rattle.cmd_messages.specs.mail_board.Written.{slot_total}
use Rattle.offered_packets.specs.Offered.{offered}
use Rattle.board_layout.specs.Lookups.{slots_in}
use Rattle.offered_packets.specs.declared.offered_message.OfferedMessage.{OfferedMessage}

-- the message is in a slot, and isn't deleted
abbrev pub IsLive : Board → OfferedMessage → Type 0
IsLive b m = IsTrue (has_live m.number (slots_in b m.place))

module _ {Entry : Type 0} (command_of : Entry → BoardCommand) where
  -- The deed in a place acknowledges a packet for the user of this id, and isn't refused.
  pub record IsAck (start : State) (deeds : List (Deed Entry)) (n user packet : ℕ) : Type 0 where
    pub deed : Deed Entry
    pub board : Board
    pub carried : IsCarriedOut start deeds n deed board
    pub name : List ℕ
    pub command : command_of deed.entry ≡ Ack name packet
    pub user_is : user_id name board ≡ Some user

  -- none of the deeds from place i on and before place j is an acknowledgement of the user
  abbrev pub NoAckBetween : State → List (Deed Entry) → ℕ → ℕ → ℕ → Type 0
  NoAckBetween start deeds i j user = (n packet : ℕ) → i ≤ n → n < j → ¬ IsAck start deeds n user packet

  module _ (Step : Steps Entry) where
    -- Once there is a board, there is one after all further deeds.
    abbrev pub StaysMade : Type 0
    StaysMade = (start : State) (deeds : List (Deed Entry)) → IsHistory Step start deeds → (i j : ℕ) → i ≤ j → (b : Board) → LeadsTo start deeds i b → (c : Board) × LeadsTo start deeds j c

    -- Each pair that is offered after the first i deeds, and is live after the first j, is offered again then.
    abbrev pub StaysOffered : Type 0
    StaysOffered = (start : State) → IsBeginning start → (deeds : List (Deed Entry)) → IsHistory Step start deeds
        → (i j : ℕ) → i ≤ j → (b c : Board) → LeadsTo start deeds i b → LeadsTo start deeds j c
        → (user : ℕ) → NoAckBetween start deeds i j user
        → (limit : ℕ) (m : OfferedMessage) → Contains (offered b user limit) m → IsLive c m
        → (most : ℕ) → slot_total c ≤ most → Contains (offered c user most) m
