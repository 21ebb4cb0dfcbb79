-- The exits of `enroll`.
use Rattle.std.proofs.Common.{◌≡◌, List, ℕ, Option, Some, Ok, Err, refl, sym, ◌∙◌, ap, subst}
use Rattle.door_outside.specs.Disk.{Disk, Unchanged}
use Rattle.door_outside.specs.Shelf as Shelf
use Rattle.entry_runs.specs.Door.{World}
use Rattle.entry_runs.specs.Entry.{Changes, Finds, IsAt, Works}
use Rattle.intent_journal.specs.Recovered.{recovered}
use Rattle.intent_journal.specs.declared.recovery.JournalError.{JournalError}
use Rattle.intent_journal.specs.declared.recovery.JournalError.TheVariants.{OutOfMemory as Starved}
use Rattle.board_layout.specs.Board.{Board}
use Rattle.mail_board.specs.Changes.{changed}
use Rattle.shelf_files.specs.Halts.{done}
use Rattle.cmd_board.specs.Enroll.{Enrolls, enrolled_line, enrolls}
use Rattle.cmd_board.specs.Enrolling.{MayEnroll}
use Rattle.cmd_board.specs.Halts.{told, of_journal}
use Rattle.cmd_board.specs.State.{State, Made, Stores, migrated, state_of}
use Rattle.cmd_board.specs.Turns.{Turn, refuses}
use Rattle.cmd_board.specs.declared.enrollment.Enrolling.{Enrolling}
use Rattle.cmd_board.specs.declared.halt.BoardHalt.{BoardHalt}
use Rattle.cmd_board.proofs.CauseLaws.{stops_by}
use Rattle.cmd_board.proofs.Exits.{answered, starved, turned, unturned}
use Rattle.cmd_board.proofs.LikeLaws.{real_stored}

module _ (name flags conferences : List ℕ) {world : World State} {old mid : Disk} {shelf : Shelf.ShelfFiles} (at : IsAt Stores world old shelf) (board : Option Board)
    (finds : Finds Stores world.state (migrated world.state) old mid (Ok (tt {0}))) (is : migrated world.state ≡ state_of board) where
  pub unprepared : (e : BoardHalt) → MayEnroll name flags conferences board (Err e) → Works Stores (enrolls name flags conferences) world old mid shelf (told enrolled_line (Err e))
  unprepared = stops_by (λ (e : BoardHalt). Works Stores (enrolls name flags conferences) world old mid shelf (told enrolled_line (Err e)))
      (λ why may. answered (λ files. Enrolls name flags conferences) at {board = board} finds is (refuses why board) may refl)
      (starved (λ files. Enrolls name flags conferences) at finds)

  module _ (e : Enrolling) (may : MayEnroll name flags conferences board (Ok e)) where
    state_is : migrated world.state ≡ Made may.0
    state_is = is ∙ ap state_of may.1

    stored : Stores (Made may.0) (recovered mid.files)
    stored = real_stored finds may.0 state_is

    turn : Turn
    turn = record { board = Some (changed e.change may.0); reply = done (enrolled_line e.user) }

    pub enrolled : {new : Disk} {T E : Type 0} {value : T} → ((b : Board) → Stores (Made b) (recovered mid.files) → Changes Stores {E = E} (Made b) (Made (changed e.change b)) mid new (Ok value)) → Works Stores (enrolls name flags conferences) world old new shelf (Ok (done (enrolled_line e.user)))
    unfolding turn
    enrolled {new} {T} {E} {value} changes = turned (λ files. Enrolls name flags conferences) at {board = Some may.0} finds state_is turn may.3
        (subst (λ (s : State). Changes Stores {T = T} {E = E} s (Made (changed e.change may.0)) mid new (Ok value)) (sym state_is) (changes may.0 stored))

    pub unenrolled : {new : Disk} {T : Type 0} (error : JournalError) → ((b : Board) → Stores (Made b) (recovered mid.files) → Changes Stores {T = T} (Made b) (Made (changed e.change b)) mid new (Err error)) → (error ≡ Starved → Unchanged mid new)
        → Works Stores (enrolls name flags conferences) world old new shelf (told enrolled_line (Err (of_journal error)))
    unfolding turn
    unenrolled {new} {T} error changes same = unturned (λ files. Enrolls name flags conferences) at {board = Some may.0} finds state_is turn may.3 enrolled_line error
        (subst (λ (s : State). Changes Stores {T = T} s (Made (changed e.change may.0)) mid new (Err error)) (sym state_is) (changes may.0 stored)) same
