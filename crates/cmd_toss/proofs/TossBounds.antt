-- A packet that is tossed writes no more than the messages that it posts may.
use Rattle.std.proofs.Common.{◌≡◌, ℕ, List, Option, Some, Ok, refl, sym}
use Rattle.cmd_board.proofs.WriteLaws.{turned_within, WritesFound}
use Rattle.cmd_board.specs.Kept.{IsOutlined}
use Rattle.cmd_board.specs.State.{State, Stores, migrated}
use Rattle.cmd_board.specs.WriteBound.{KeepsWriteBound}
use Rattle.board_layout.specs.Board.{Board}
use Rattle.board_layout.specs.Valid.{IsBoard}
use Rattle.door_outside.specs.Disk.{Disk}
use Rattle.door_outside.specs.Shelf as Shelf
use Rattle.fts_packet.specs.declared.packet.FtsMessage.{FtsMessage}
use Rattle.intent_journal.specs.Journal.{IsClosed}
use Rattle.intent_journal.specs.Recovered.{recovered}
use Rattle.cmd_board.proofs.mail_board.EachNext.{changed_alike}
use Rattle.cmd_board.proofs.mail_board.PostedSlots.{posting_keeps}
use Rattle.cmd_board.specs.mail_board.Changes.{changed}
use Rattle.cmd_board.specs.mail_board.Written.{WritesFew}
use Rattle.cmd_board.proofs.ChangeExits.{carried}
use Rattle.cmd_toss.proofs.TossActs.{toss_turns}
use Rattle.cmd_toss.proofs.TossAlike.{tossing_alike}
use Rattle.cmd_toss.specs.PacketFiles.{FtsPacketOf}
use Rattle.cmd_toss.specs.Toss.{Tosses, tosses}
use Rattle.cmd_toss.specs.Tossing.{MayToss, PostsTossed}
use Rattle.cmd_toss.specs.declared.tossing.Tossing.{Tossing}

module _ (old mid new : Disk) (shelf : Shelf.ShelfFiles) (closed : IsClosed (old.files 1)) (found : WritesFound old mid.wrote) (kept : Option Board)
    (stands : (state : State) → Stores state (recovered old.files) → IsOutlined (migrated state) kept) (b : Board) (kept_is : kept ≡ Some b) (ok : IsBoard b) where
  pub toss_within : (file : List ℕ) (now : ℕ) (messages : List FtsMessage) → FtsPacketOf shelf file (Ok messages) → (t : Tossing) → MayToss now messages b (Ok t) → PostsTossed now messages b t
      → WritesFew t.change b mid.wrote new.wrote → KeepsWriteBound (tosses file now) old new shelf
  toss_within file now messages reads t may change few =
      turned_within (Tosses file now) (toss_turns file now) old mid new shelf closed found kept stands b kept_is (changed t.change) (λ real alike. changed_alike real b alike t.change) (λ real. carried t.change real t.reply)
      (λ real valid alike. ((Ok messages, reads, sym (tossing_alike real b alike now messages t.change t.reply change may.1)), refl))
      (posting_keeps t.change b mid.wrote new.wrote may.2 ok may.0 few)
