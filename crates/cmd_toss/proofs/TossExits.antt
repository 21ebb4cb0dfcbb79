-- The exits of `toss` once the board is found.
use Rattle.std.proofs.Common.{◌≡◌, ℕ, List, Option, Some, Ok, Err, refl, sym}
use Rattle.cmd_board.proofs.CauseLaws.{stops_by}
use Rattle.cmd_board.proofs.Exits.{shelf_fails, starved}
use Rattle.cmd_board.specs.Halts.{told, of_journal, of_shelf}
use Rattle.cmd_board.specs.Kept.{IsOutlined}
use Rattle.cmd_board.specs.State.{State, Made, Stores, migrated}
use Rattle.cmd_board.specs.declared.halt.BoardHalt.{BoardHalt}
use Rattle.cmd_board.specs.declared.halt.BoardHalt.TheVariants as board_halt
use Rattle.board_layout.specs.Board.{Board}
use Rattle.board_layout.specs.Valid.{IsBoard}
use Rattle.door_outside.specs.Disk.{Disk, Unchanged}
use Rattle.door_outside.specs.Shelf as Shelf
use Rattle.entry_runs.proofs.Commands.{works_same}
use Rattle.entry_runs.specs.Door.{World}
use Rattle.entry_runs.specs.Entry.{Changes, Finds, IsAt, Works}
use Rattle.fts_packet.specs.declared.packet.FtsMessage.{FtsMessage}
use Rattle.intent_journal.specs.Recovered.{recovered}
use Rattle.intent_journal.specs.declared.recovery.JournalError.{JournalError}
use Rattle.intent_journal.specs.declared.recovery.JournalError.TheVariants.{OutOfMemory as Starved}
use Rattle.cmd_board.specs.mail_board.Changes.{changed}
use Rattle.cmd_board.specs.mail_board.Held.{AreAlike}
use Rattle.cmd_board.proofs.ChangeExits.{carried, changed_by, refused_on, unchanged_by}
use Rattle.shelf_files.specs.Halts.{Comes, done}
use Rattle.shelf_files.specs.declared.halt.Halt.{Halt}
use Rattle.shelf_files.specs.declared.halt.Halt.TheVariants.{Refused, ShelfFault, OutOfMemory}
use Rattle.cmd_toss.proofs.TossAlike.{tossing_alike}
use Rattle.cmd_toss.specs.PacketFiles.{FtsPacketOf}
use Rattle.cmd_toss.specs.Toss.{Tosses, tosses}
use Rattle.cmd_toss.specs.Tossing.{MayToss, PostsTossed}
use Rattle.cmd_toss.specs.declared.tossing.Tossing.{Tossing}

-- what is said is the text that is answered
abbrev pub said : List ℕ → List ℕ
said text = text

module _ (file : List ℕ) (now : ℕ) {world : World State} {old mid : Disk} {shelf later : Shelf.ShelfFiles} (at : IsAt Stores world old shelf) (kept : Option Board)
    (finds : Finds Stores world.state (migrated world.state) old mid (Ok (tt {0}))) (found : IsOutlined (migrated world.state) kept) (b : Board) (kept_is : kept ≡ Some b) (same : later ≡ shelf) where
  -- the packet is refused, or couldn't be read
  pub no_packet : (halt : Halt) → Comes {Value = List FtsMessage} (Err halt) (FtsPacketOf shelf file) → Works Stores (tosses file now) world old mid later (told said (Err (of_shelf halt)))
  no_packet (Refused why) comes = works_same Stores (tosses file now) same
      (refused_on (Tosses file now) at kept finds found said b why (board_halt.Refused why) kept_is refl (λ real valid alike. (Err why, comes, refl)))
  no_packet ShelfFault comes = works_same Stores (tosses file now) same (shelf_fails (Tosses file now) at finds)
  no_packet OutOfMemory comes = works_same Stores (tosses file now) same (starved (Tosses file now) at finds)

  module _ (messages : List FtsMessage) (reads : FtsPacketOf shelf file (Ok messages)) where
    -- there is no memory for what becomes of the messages
    pub unprepared : (e : BoardHalt) → MayToss now messages b (Err e) → Works Stores (tosses file now) world old mid later (told said (Err e))
    unprepared = stops_by (λ (e : BoardHalt). Works Stores (tosses file now) world old mid later (told said (Err e)))
        (λ why may. absurd may) (works_same Stores (tosses file now) same (starved (Tosses file now) at finds))

    module _ (t : Tossing) (may : MayToss now messages b (Ok t)) (change : PostsTossed now messages b t) where
      takes : (real : Board) → IsBoard real → AreAlike real b → Tosses file now shelf (Some real) (carried t.change real t.reply)
      takes real valid alike = (Ok messages, reads, sym (tossing_alike real b alike now messages t.change t.reply change may.1))

      pub tosses_all : {new : Disk} {T E : Type 0} {value : T} → ((r : Board) → Stores (Made r) (recovered mid.files) → Changes Stores {E = E} (Made r) (Made (changed t.change r)) mid new (Ok value)) → Works Stores (tosses file now) world old new later (Ok (done t.reply))
      tosses_all changes = works_same Stores (tosses file now) same (changed_by (Tosses file now) at kept finds found b kept_is t.change t.reply takes changes)

      pub untossed : {new : Disk} {T : Type 0} (error : JournalError) → ((r : Board) → Stores (Made r) (recovered mid.files) → Changes Stores {T = T} (Made r) (Made (changed t.change r)) mid new (Err error)) → (error ≡ Starved → Unchanged mid new)
          → Works Stores (tosses file now) world old new later (told said (Err (of_journal error)))
      untossed error changes still = works_same Stores (tosses file now) same (unchanged_by (Tosses file now) at kept finds found b kept_is t.change t.reply takes said error changes still)
