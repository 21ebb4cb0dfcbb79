-- The exits of `init`.
use Rattle.std.proofs.Common.{◌≡◌, List, ℕ, length, Option, Some, None, Result, Ok, Err, refl, sym, subst}
use Rattle.door_outside.specs.Disk.{Disk, Unchanged}
use Rattle.door_outside.specs.Shelf as Shelf
use Rattle.entry_runs.proofs.Commands.{works_same}
use Rattle.entry_runs.specs.Door.{World}
use Rattle.entry_runs.specs.Entry.{Changes, Finds, IsAt, Works}
use Rattle.intent_journal.specs.declared.recovery.JournalError.{JournalError}
use Rattle.intent_journal.specs.declared.recovery.JournalError.TheVariants.{OutOfMemory as Starved}
use Rattle.mail_board.specs.board_changes.Changed.{made}
use Rattle.board_layout.specs.Board.{Board}
use Rattle.setup_file.specs.declared.fields.SetupFields.{SetupFields}
use Rattle.shelf_files.specs.Halts.{Comes, done, refused as says_refusal}
use Rattle.shelf_files.specs.declared.halt.Halt.{Halt}
use Rattle.shelf_files.specs.declared.halt.Halt.TheVariants.{Refused, ShelfFault, OutOfMemory}
use Rattle.shelf_files.specs.declared.refusal.Refusal.{Refusal}
use Rattle.shelf_files.specs.declared.refusal.Refusal.TheVariants.{Exists}
use Rattle.cmd_board.specs.Halts.{told, of_journal, of_shelf}
use Rattle.cmd_board.specs.Init.{Inits, SetupOf, inits, made_line, made_of}
use Rattle.cmd_board.specs.Kept.{IsOutlined}
use Rattle.cmd_board.specs.State.{State, NotMade, Made, Stores, migrated}
use Rattle.cmd_board.specs.Turns.{refuses}
use Rattle.cmd_board.proofs.Exits.{answered, shelf_fails, starved, turned, unturned}
use Rattle.cmd_board.proofs.LikeLaws.{some_outlined}

-- there is a board already
pub exists_already : (file : List ℕ) (now : ℕ) {world : World State} {old mid : Disk} {shelf : Shelf.ShelfFiles} → IsAt Stores world old shelf → (kept : Option Board)
    → Finds Stores world.state (migrated world.state) old mid (Ok (tt {0})) → IsOutlined (migrated world.state) kept → (b : Board) → kept ≡ Some b → Works Stores (inits file now) world old mid shelf (Ok (says_refusal Exists))
exists_already file now at kept finds found b some =
    let real = some_outlined _ kept b some found in
    answered (Inits file now) at {board = Some real.board} finds real.is (refuses Exists (Some real.board)) refl refl

module _ (file : List ℕ) (now : ℕ) {world : World State} {old mid : Disk} {shelf : Shelf.ShelfFiles} (at : IsAt Stores world old shelf)
    (finds : Finds Stores world.state (migrated world.state) old mid (Ok (tt {0}))) (is : migrated world.state ≡ NotMade) where
  of_world : (read : Result SetupFields Refusal) → SetupOf shelf file read → SetupOf world.shelf file read
  of_world read setup = subst (λ (files : Shelf.ShelfFiles). SetupOf files file read) at.shelf_is setup

  -- the setup file is refused, or couldn't be read
  pub unset : {later : Shelf.ShelfFiles} (halt : Halt) → Comes {Value = SetupFields} (Err halt) (SetupOf shelf file) → later ≡ shelf → Works Stores (inits file now) world old mid later (told made_line (Err (of_shelf halt)))
  unset (Refused why) comes same = works_same Stores (inits file now) same (answered (Inits file now) at {board = None} finds is (made_of now (Err why)) (Err why, of_world (Err why) comes, refl) refl)
  unset ShelfFault comes same = works_same Stores (inits file now) same (shelf_fails (Inits file now) at finds)
  unset OutOfMemory comes same = works_same Stores (inits file now) same (starved (Inits file now) at finds)

  module _ (setup : SetupFields) (comes : SetupOf shelf file (Ok setup)) where
    pub begun : {new : Disk} {later : Shelf.ShelfFiles} {T E : Type 0} {value : T} (count : ℕ) → count ≡ length setup.conferences → Changes Stores {E = E} NotMade (Made (made setup now)) mid new (Ok value) → later ≡ shelf
        → Works Stores (inits file now) world old new later (Ok (done (made_line count)))
    begun {new} {later} {T} {E} {value} count counted changes same = works_same Stores (inits file now) same
        (subst (λ (n : ℕ). Works Stores (inits file now) world old new shelf (Ok (done (made_line n)))) (sym counted)
        (turned (Inits file now) at {board = None} finds is (made_of now (Ok setup)) (Ok setup, of_world (Ok setup) comes, refl)
        (subst (λ (s : State). Changes Stores {T = T} {E = E} s (Made (made setup now)) mid new (Ok value)) (sym is) changes)))

    pub unbegun : {new : Disk} {later : Shelf.ShelfFiles} {T : Type 0} (error : JournalError) → Changes Stores {T = T} NotMade (Made (made setup now)) mid new (Err error) → (error ≡ Starved → Unchanged mid new) → later ≡ shelf
        → Works Stores (inits file now) world old new later (told made_line (Err (of_journal error)))
    unbegun {new} {later} {T} error changes still same = works_same Stores (inits file now) same
        (unturned (Inits file now) at {board = None} finds is (made_of now (Ok setup)) (Ok setup, of_world (Ok setup) comes, refl) made_line error
        (subst (λ (s : State). Changes Stores {T = T} s (Made (made setup now)) mid new (Err error)) (sym is) changes) still)
