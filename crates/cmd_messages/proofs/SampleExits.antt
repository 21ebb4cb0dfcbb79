-- The exits of `sample` once the board is found.
use Rattle.std.proofs.Common.{◌≡◌, ℕ, Option, Some, Ok, Err, refl, sym}
use Rattle.cmd_board.proofs.CauseLaws.{stops_by}
use Rattle.cmd_board.proofs.Exits.{starved}
use Rattle.cmd_board.specs.Halts.{told, of_journal}
use Rattle.cmd_board.specs.Kept.{IsOutlined}
use Rattle.cmd_board.specs.State.{State, Made, Stores, migrated}
use Rattle.cmd_board.specs.Turns.{Turn}
use Rattle.cmd_board.specs.declared.halt.BoardHalt.{BoardHalt}
use Rattle.cmd_board.specs.declared.halt.BoardHalt.TheVariants.{Refused}
use Rattle.board_layout.specs.Board.{Board}
use Rattle.board_layout.specs.Valid.{IsBoard}
use Rattle.door_outside.specs.Disk.{Disk, Unchanged}
use Rattle.door_outside.specs.Shelf as Shelf
use Rattle.entry_runs.specs.Door.{World}
use Rattle.entry_runs.specs.Entry.{Changes, Finds, IsAt, Works}
use Rattle.intent_journal.specs.Recovered.{recovered}
use Rattle.intent_journal.specs.declared.recovery.JournalError.{JournalError}
use Rattle.intent_journal.specs.declared.recovery.JournalError.TheVariants.{OutOfMemory as Starved}
use Rattle.cmd_board.specs.mail_board.Changes.{changed}
use Rattle.cmd_board.specs.mail_board.Held.{AreAlike}
use Rattle.cmd_board.specs.mail_board.declared.change.Change.{Change}
use Rattle.cmd_board.proofs.ChangeExits.{carried, changed_by, refused_on, unchanged_by}
use Rattle.cmd_messages.proofs.SampleAlike.{sample_refused, sample_taken}
use Rattle.cmd_messages.specs.Sample.{sample_turn, sampled_line, samples}
use Rattle.cmd_messages.specs.Sampling.{MaySample}
use Rattle.cmd_board.specs.shelf_files.Halts.{done}

-- the turns of a sample, whatever the shelf has
abbrev pub Turns : ℕ → ℕ → ℕ → Shelf.ShelfFiles → Option Board → Turn → Type 0
Turns seed count now files board turn = turn ≡ sample_turn seed count now board

module _ (seed count now : ℕ) {world : World State} {old mid : Disk} {shelf : Shelf.ShelfFiles} (at : IsAt Stores world old shelf) (kept : Option Board) (finds : Finds Stores world.state (migrated world.state) old mid (Ok (tt {0})))
    (found : IsOutlined (migrated world.state) kept) (b : Board) (kept_is : kept ≡ Some b) where
  -- it is refused, or there is no memory for it
  pub unprepared : (e : BoardHalt) → MaySample seed count now b (Err e) → Works Stores (samples seed count now) world old mid shelf (told sampled_line (Err e))
  unprepared = stops_by (λ (e : BoardHalt). Works Stores (samples seed count now) world old mid shelf (told sampled_line (Err e)))
      (λ why may. refused_on (Turns seed count now) at kept finds found sampled_line b why (Refused why) kept_is refl (λ real valid alike. sym (sample_refused seed count now real b alike why may)))
      (starved (Turns seed count now) at finds)

  module _ (change : Change) (may : MaySample seed count now b (Ok change)) where
    takes : (real : Board) → IsBoard real → AreAlike real b → Turns seed count now shelf (Some real) (carried change real (sampled_line count))
    takes real valid alike = sym (sample_taken seed count now real b alike change (sampled_line count) may.3 may.1)

    pub appended : {new : Disk} {T E : Type 0} {value : T} → ((r : Board) → Stores (Made r) (recovered mid.files) → Changes Stores {E = E} (Made r) (Made (changed change r)) mid new (Ok value)) → Works Stores (samples seed count now) world old new shelf (Ok (done (sampled_line count)))
    appended changes = changed_by (Turns seed count now) at kept finds found b kept_is change (sampled_line count) takes changes

    pub unappended : {new : Disk} {T : Type 0} (error : JournalError) → ((r : Board) → Stores (Made r) (recovered mid.files) → Changes Stores {T = T} (Made r) (Made (changed change r)) mid new (Err error)) → (error ≡ Starved → Unchanged mid new)
        → Works Stores (samples seed count now) world old new shelf (told sampled_line (Err (of_journal error)))
    unappended error changes still = unchanged_by (Turns seed count now) at kept finds found b kept_is change (sampled_line count) takes sampled_line error changes still
