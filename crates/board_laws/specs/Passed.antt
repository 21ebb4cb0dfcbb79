-- Passed: what a user has behind him was offered to him, and he acknowledged it.
use Rattle.std.specs.Prelude.{◌≡◌, ◌≤◌, ◌<◌, ℕ, List, Contains, IsTrue, Some, Ok}
use Rattle.cmd_messages.specs.cmd_board.State.{State, NotMade}
use Rattle.board_layout.specs.Board.{Board}
use Rattle.board_layout.specs.Lookups.{pointer_at}
use Rattle.board_laws.specs.BoardCommand.{BoardCommand, Export}
use Rattle.board_laws.specs.History.{Deed, Steps, IsHistory, IsCarriedOut, LeadsTo}
use Rattle.board_laws.specs.Kept.{IsAck}
use Rattle.cmd_exchange.specs.door_export.Export.{Handout, export_of}
use Rattle.cmd_messages.specs.mail_board.Readers.{user_id}
use Rattle.offered_packets.specs.Offered.{offered}
use Rattle.offered_packets.specs.Sees.{sees}
use Rattle.offered_packets.specs.declared.offered_message.OfferedMessage.{OfferedMessage}

module _ {Entry : Type 0} (command_of : Entry → BoardCommand) where
  -- The deed in a place exports a packet to the user of this id, and isn't refused.
  pub record IsExport (start : State) (deeds : List (Deed Entry)) (n user packet : ℕ) : Type 0 where
    pub deed : Deed Entry
    pub board : Board
    pub carried : IsCarriedOut start deeds n deed board
    pub name : List ℕ
    pub limit : ℕ
    pub folder : List ℕ
    pub command : command_of deed.entry ≡ Export name limit folder
    pub user_is : user_id name board ≡ Some user
    pub handout : Handout
    pub export : export_of name limit deed.now board ≡ Ok handout
    pub packet_is : handout.answer.packet ≡ packet

  -- Before place n a packet was exported to the user whose offered list has the message, and then he acknowledged it.
  pub record IsAcknowledged (start : State) (deeds : List (Deed Entry)) (n user : ℕ) (m : OfferedMessage) : Type 0 where
    pub exported : ℕ
    pub acknowledged : ℕ
    pub packet : ℕ
    pub export : IsExport start deeds exported user packet
    pub offers : Contains (offered export.board user export.limit) m
    pub first : exported < acknowledged
    pub ack : IsAck command_of start deeds acknowledged user packet
    pub before : acknowledged < n

  module _ (Step : Steps Entry) where
    -- From no board on, each live message that a user may see, with a number at most his pointer, is such a one.
    abbrev pub IsPassed : Type 0
    IsPassed = (deeds : List (Deed Entry)) → IsHistory Step NotMade deeds → (n : ℕ) (b : Board) → LeadsTo NotMade deeds n b
        → (user : ℕ) (m : OfferedMessage) → IsTrue (sees b user m.place m.number) → (pointer : ℕ) → pointer_at m.place user b ≡ Some pointer → m.number ≤ pointer
        → IsAcknowledged NotMade deeds n user m

    -- A later packet of a user has a greater number: so a number is that of one export.
    abbrev pub PacketsRise : Type 0
    PacketsRise = (start : State) (deeds : List (Deed Entry)) → IsHistory Step start deeds → (user i j packet later : ℕ) → i < j
        → IsExport start deeds i user packet → IsExport start deeds j user later → packet < later
