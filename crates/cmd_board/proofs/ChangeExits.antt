-- The exits of a command that is refused or makes one change of the board: from what was found to what its contract
-- gives.
use Rattle.std.proofs.Common.{◌≡◌, List, ℕ, Option, Some, None, Ok, Err, refl, sym, subst}
use Rattle.cmd_board.proofs.Exits.{answered, turned, unturned}
use Rattle.cmd_board.proofs.LikeLaws.{Real, real_stored, some_outlined}
use Rattle.cmd_board.specs.Halts.{told, of_journal}
use Rattle.cmd_board.specs.Kept.{AreLike, IsOutlined}
use Rattle.cmd_board.specs.State.{State, Made, Stores, migrated}
use Rattle.cmd_board.specs.Turns.{Turn, refuses, on_board}
use Rattle.cmd_board.specs.declared.halt.BoardHalt.{BoardHalt}
use Rattle.cmd_board.specs.declared.halt.BoardHalt.TheVariants.{Refused}
use Rattle.board_layout.specs.Board.{Board}
use Rattle.board_layout.specs.Valid.{IsBoard}
use Rattle.door_outside.specs.Disk.{Disk, Unchanged}
use Rattle.door_outside.specs.Shelf as Shelf
use Rattle.entry_runs.specs.Door.{World}
use Rattle.entry_runs.specs.Entry.{Changes, Finds, IsAt, Works}
use Rattle.intent_journal.specs.Recovered.{recovered}
use Rattle.intent_journal.specs.declared.recovery.JournalError.{JournalError}
use Rattle.intent_journal.specs.declared.recovery.JournalError.TheVariants.{OutOfMemory as Starved}
use Rattle.mail_board.specs.Changes.{changed}
use Rattle.mail_board.specs.Held.{AreAlike}
use Rattle.mail_board.specs.declared.change.Change.{Change}
use Rattle.shelf_files.specs.Halts.{done}
use Rattle.shelf_files.specs.declared.refusal.Refusal.{Refusal}
use Rattle.shelf_files.specs.declared.refusal.Refusal.TheVariants.{NotMade}

-- the board is changed, and a text answered
abbrev pub carried : Change → Board → List ℕ → Turn
carried change b text = record { board = Some (changed change b); reply = done text }

module _ (turns : Shelf.ShelfFiles → Option Board → Turn → Type 0) {world : World State} {old mid : Disk} {shelf : Shelf.ShelfFiles} (at : IsAt Stores world old shelf) (kept : Option Board)
    (finds : Finds Stores world.state (migrated world.state) old mid (Ok (tt {0}))) (found : IsOutlined (migrated world.state) kept) where
  of_world : (other : Option Board) (turn : Turn) → turns shelf other turn → turns world.shelf other turn
  of_world other turn takes = subst (λ (files : Shelf.ShelfFiles). turns files other turn) at.shelf_is takes

  -- it is refused, whichever board has the outline that is kept
  pub refused_by : {Value : Type 0} (text : Value → List ℕ) (same : Option Board) (why : Refusal) (e : BoardHalt) → kept ≡ same → e ≡ Refused why → ((board : Option Board) → AreLike board same → turns shelf board (refuses why board))
      → Works Stores (on_board turns) world old mid shelf (told text (Err e))
  refused_by text same why e kept_is e_is takes =
      let board : Option Board = found.0 in
      subst (λ (halt : BoardHalt). Works Stores (on_board turns) world old mid shelf (told text (Err halt))) (sym e_is)
      (answered turns at {board = board} finds found.1 (refuses why board) (of_world board (refuses why board) (takes board (subst (AreLike board) kept_is found.2))) refl)

  -- there is no board
  pub unmade_by : {Value : Type 0} (text : Value → List ℕ) (e : BoardHalt) → kept ≡ None → e ≡ Refused NotMade → turns shelf None (refuses NotMade None) → Works Stores (on_board turns) world old mid shelf (told text (Err e))
  unmade_by text e none e_is takes = refused_by text None NotMade e none e_is by
    where
      by : (board : Option Board) → AreLike board None → turns shelf board (refuses NotMade board)
      by None like = takes
      by (Some b) like = absurd like

  -- each board with the outline is refused
  pub refused_on : {Value : Type 0} (text : Value → List ℕ) (b : Board) (why : Refusal) (e : BoardHalt) → kept ≡ Some b → e ≡ Refused why → ((real : Board) → IsBoard real → AreAlike real b → turns shelf (Some real) (refuses why (Some real)))
      → Works Stores (on_board turns) world old mid shelf (told text (Err e))
  refused_on text b why e kept_is e_is takes = refused_by text (Some b) why e kept_is e_is by
    where
      by : (board : Option Board) → AreLike board (Some b) → turns shelf board (refuses why board)
      by None like = absurd like
      by (Some real) like = takes real like.0 like.1

  -- it was to make a change, whichever board has the outline
  module _ (b : Board) (kept_is : kept ≡ Some b) (change : Change) (text : List ℕ) (takes : (real : Board) → IsBoard real → AreAlike real b → turns shelf (Some real) (carried change real text)) where
    real : Real (migrated world.state) b
    real = some_outlined (migrated world.state) kept b kept_is found

    stored : Stores (Made real.board) (recovered mid.files)
    stored = real_stored finds real.board real.is

    taken : turns world.shelf (Some real.board) (carried change real.board text)
    taken = of_world (Some real.board) (carried change real.board text) (takes real.board real.valid real.alike)

    pub changed_by : {new : Disk} {T E : Type 0} {value : T} → ((r : Board) → Stores (Made r) (recovered mid.files) → Changes Stores {E = E} (Made r) (Made (changed change r)) mid new (Ok value)) → Works Stores (on_board turns) world old new shelf (Ok (done text))
    changed_by {new} {T} {E} {value} changes = turned turns at {board = Some real.board} finds real.is (carried change real.board text) taken
        (subst (λ (s : State). Changes Stores {T = T} {E = E} s (Made (changed change real.board)) mid new (Ok value)) (sym real.is) (changes real.board stored))

    pub unchanged_by : {new : Disk} {Value T : Type 0} (line : Value → List ℕ) (error : JournalError) → ((r : Board) → Stores (Made r) (recovered mid.files) → Changes Stores {T = T} (Made r) (Made (changed change r)) mid new (Err error)) → (error ≡ Starved → Unchanged mid new)
        → Works Stores (on_board turns) world old new shelf (told line (Err (of_journal error)))
    unchanged_by {new} {Value} {T} line error changes same = unturned turns at {board = Some real.board} finds real.is (carried change real.board text) taken line error
        (subst (λ (s : State). Changes Stores {T = T} s (Made (changed change real.board)) mid new (Err error)) (sym real.is) (changes real.board stored)) same
