-- Once: each packet that a user uploads changes the board once at most.
use Rattle.std.specs.Prelude.{◌≡◌, ◌<◌, ℕ, suc, List, ◌++◌, codes, slice_get, Some, Ok}
use Rattle.cmd_messages.specs.cmd_board.State.{State, migrated}
use Rattle.board_layout.specs.Board.{Board}
use Rattle.board_laws.specs.BoardCommand.{BoardCommand, Upload}
use Rattle.board_laws.specs.History.{Deed, Steps, IsHistory, ChangesBoard, LeadsTo, after}
use Rattle.entry_runs.specs.declared.class.Class.TheVariants.{Done}
use Rattle.cmd_messages.specs.mail_board.Readers.{user_id}
use Rattle.cmd_messages.specs.packet_verdicts.declared.outcome.Outcome.{Outcome}
use Rattle.sha2.specs.Sha256.{sha256}
use Rattle.cmd_messages.specs.shelf_files.ShelfFile.{file_within, rep_limit}
use Rattle.cmd_exchange.specs.Upload.{outcome_lines, tally}

-- One reply tells what became of each message of a packet, and the other says again how many were posted and refused.
pub record HasItsCounts (first again : List ℕ) : Type 0 where
  pub outcomes : List Outcome
  pub first_is : first ≡ outcome_lines 1 outcomes ++ tally outcomes
  pub again_is : again ≡ codes "again " ++ tally outcomes

module _ {Entry : Type 0} (command_of : Entry → BoardCommand) where
  -- The deed in a place is an upload of a packet with this digest by the user of this id.
  pub record IsUploadDeed (start : State) (deeds : List (Deed Entry)) (n user : ℕ) (digest : List ℕ) : Type 0 where
    pub deed : Deed Entry
    pub there : slice_get deeds n ≡ Some deed
    pub board : Board
    pub board_is : LeadsTo start deeds n board
    pub name : List ℕ
    pub file : List ℕ
    pub command : command_of deed.entry ≡ Upload name file
    pub user_is : user_id name board ≡ Some user
    pub bytes : List ℕ
    pub read : file_within deed.shelf file rep_limit ≡ Ok bytes
    pub digest_is : sha256 bytes ≡ digest

  module _ (Step : Steps Entry) where
    -- For each user and digest at most one deed changes the board by an upload.
    abbrev pub ChangesOnce : Type 0
    ChangesOnce = (start : State) (deeds : List (Deed Entry)) → IsHistory Step start deeds → (user : ℕ) (digest : List ℕ) (i j : ℕ)
        → IsUploadDeed start deeds i user digest → ChangesBoard start deeds i → IsUploadDeed start deeds j user digest → ChangesBoard start deeds j → i ≡ j

    -- Each later upload of them that isn't refused changes nothing, and has the counts of that one.
    abbrev pub SaysAgain : Type 0
    SaysAgain = (start : State) (deeds : List (Deed Entry)) → IsHistory Step start deeds → (user : ℕ) (digest : List ℕ) (i j : ℕ) → i < j
        → (first : IsUploadDeed start deeds i user digest) → ChangesBoard start deeds i → (later : IsUploadDeed start deeds j user digest) → later.deed.stepped.class ≡ Done
        → (migrated (after start deeds (suc j)) ≡ migrated (after start deeds j)) × HasItsCounts first.deed.stepped.reply later.deed.stepped.reply
