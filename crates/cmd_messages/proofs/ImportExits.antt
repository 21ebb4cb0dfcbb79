-- The exits of `import` once the place of the conference is known.
use Rattle.std.proofs.Common.{◌≡◌, ℕ, List, Option, Some, None, Result, Ok, Err, refl, sym, ◌∙◌, subst}
use Rattle.cmd_board.proofs.CauseLaws.{stops_by}
use Rattle.cmd_board.proofs.Exits.{shelf_fails, starved}
use Rattle.cmd_board.specs.Halts.{told, of_journal, of_shelf}
use Rattle.cmd_board.specs.Kept.{IsOutlined}
use Rattle.cmd_board.specs.State.{State, Made, Stores, migrated}
use Rattle.cmd_board.specs.Turns.{Turn, refuses}
use Rattle.cmd_board.specs.declared.halt.BoardHalt.{BoardHalt}
use Rattle.cmd_board.specs.declared.halt.BoardHalt.TheVariants as board_halt
use Rattle.board_layout.specs.Board.{Board}
use Rattle.board_layout.specs.Valid.{IsBoard}
use Rattle.board_layout.specs.Lookups.{place_of}
use Rattle.door_outside.specs.Disk.{Disk, Unchanged}
use Rattle.door_outside.specs.Shelf as Shelf
use Rattle.entry_runs.proofs.Commands.{works_same}
use Rattle.entry_runs.specs.Door.{World}
use Rattle.entry_runs.specs.Entry.{Changes, Finds, IsAt, Works}
use Rattle.import_sheet.specs.declared.sheet.Sheet.{Sheet}
use Rattle.intent_journal.specs.Recovered.{recovered}
use Rattle.intent_journal.specs.declared.recovery.JournalError.{JournalError}
use Rattle.intent_journal.specs.declared.recovery.JournalError.TheVariants.{OutOfMemory as Starved}
use Rattle.cmd_board.specs.mail_board.Changes.{changed}
use Rattle.cmd_board.specs.mail_board.Held.{AreAlike}
use Rattle.cmd_board.specs.shelf_files.Halts.{Comes, done}
use Rattle.cmd_board.specs.shelf_files.Sheets.{SheetOf}
use Rattle.cmd_board.specs.shelf_files.declared.halt.Halt.{Halt}
use Rattle.cmd_board.specs.shelf_files.declared.halt.Halt.TheVariants.{Refused, ShelfFault, OutOfMemory}
use Rattle.cmd_board.specs.shelf_files.declared.refusal.Refusal.{Refusal}
use Rattle.cmd_board.specs.shelf_files.declared.refusal.Refusal.TheVariants.{NoConference}
use Rattle.cmd_board.proofs.ChangeExits.{carried, changed_by, refused_on, unchanged_by}
use Rattle.cmd_messages.proofs.ImportAlike.{sheet_refused, sheet_taken}
use Rattle.cmd_board.proofs.PlaceAlike.{place_alike}
use Rattle.cmd_messages.specs.Import.{Imports, ImportsAt, imported_line, imports, sheet_turn}
use Rattle.cmd_messages.specs.Importing.{MayImport}
use Rattle.cmd_messages.specs.declared.importing.Importing.{Importing}

module _ (conference : ℕ) (file : List ℕ) (now : ℕ) (shelf : Shelf.ShelfFiles) (b : Board) where
  pub unplaced : place_of conference b ≡ None → Imports conference file now shelf (Some b) (refuses NoConference (Some b))
  unplaced none = subst (λ (place : Option ℕ). ImportsAt conference file now shelf b place (refuses NoConference (Some b))) (sym none) refl

  pub placed : (place : ℕ) → place_of conference b ≡ Some place → (read : Result (List Sheet) Refusal) → SheetOf shelf file read → (turn : Turn) → turn ≡ sheet_turn conference now place b read → Imports conference file now shelf (Some b) turn
  placed place is read reads turn turn_is = subst (λ (found : Option ℕ). ImportsAt conference file now shelf b found turn) (sym is) (read, reads, turn_is)

module _ (conference : ℕ) (file : List ℕ) (now : ℕ) {world : World State} {old mid : Disk} {shelf later : Shelf.ShelfFiles} (at : IsAt Stores world old shelf) (kept : Option Board)
    (finds : Finds Stores world.state (migrated world.state) old mid (Ok (tt {0}))) (found : IsOutlined (migrated world.state) kept) (b : Board) (kept_is : kept ≡ Some b) (place : ℕ) (place_is : place_of conference b ≡ Some place) (same : later ≡ shelf) where
  -- the sheet is refused, or couldn't be read
  pub no_sheet : (halt : Halt) → Comes {Value = List Sheet} (Err halt) (SheetOf shelf file) → Works Stores (imports conference file now) world old mid later (told (imported_line conference) (Err (of_shelf halt)))
  no_sheet (Refused why) comes = works_same Stores (imports conference file now) same
      (refused_on (Imports conference file now) at kept finds found (imported_line conference) b why (board_halt.Refused why) kept_is refl
      (λ real valid alike. placed conference file now shelf real place (place_alike real b alike conference ∙ place_is) (Err why) comes (refuses why (Some real)) refl))
  no_sheet ShelfFault comes = works_same Stores (imports conference file now) same (shelf_fails (Imports conference file now) at finds)
  no_sheet OutOfMemory comes = works_same Stores (imports conference file now) same (starved (Imports conference file now) at finds)

  module _ (entries : List Sheet) (reads : SheetOf shelf file (Ok entries)) where
    -- the import is refused, or there is no memory for it
    pub unprepared : (e : BoardHalt) → MayImport conference now place entries b (Err e) → Works Stores (imports conference file now) world old mid later (told (imported_line conference) (Err e))
    unprepared = stops_by (λ (e : BoardHalt). Works Stores (imports conference file now) world old mid later (told (imported_line conference) (Err e)))
        (λ why may. works_same Stores (imports conference file now) same
        (refused_on (Imports conference file now) at kept finds found (imported_line conference) b why (board_halt.Refused why) kept_is refl
        (λ real valid alike. placed conference file now shelf real place (place_alike real b alike conference ∙ place_is) (Ok entries) reads (refuses why (Some real)) (sym (sheet_refused conference now place entries real b alike why may)))))
        (works_same Stores (imports conference file now) same (starved (Imports conference file now) at finds))

    module _ (i : Importing) (may : MayImport conference now place entries b (Ok i)) where
      takes : (real : Board) → IsBoard real → AreAlike real b → Imports conference file now shelf (Some real) (carried i.change real (imported_line conference i.count))
      takes real valid alike =
          placed conference file now shelf real place (place_alike real b alike conference ∙ place_is) (Ok entries) reads (carried i.change real (imported_line conference i.count))
          (sym (sheet_taken conference now place entries real b alike i.change (imported_line conference i.count) may.3 may.1))

      pub imported : {new : Disk} {T E : Type 0} {value : T} → ((r : Board) → Stores (Made r) (recovered mid.files) → Changes Stores {E = E} (Made r) (Made (changed i.change r)) mid new (Ok value))
          → Works Stores (imports conference file now) world old new later (Ok (done (imported_line conference i.count)))
      imported changes = works_same Stores (imports conference file now) same (changed_by (Imports conference file now) at kept finds found b kept_is i.change (imported_line conference i.count) takes changes)

      pub unimported : {new : Disk} {T : Type 0} (error : JournalError) → ((r : Board) → Stores (Made r) (recovered mid.files) → Changes Stores {T = T} (Made r) (Made (changed i.change r)) mid new (Err error)) → (error ≡ Starved → Unchanged mid new)
          → Works Stores (imports conference file now) world old new later (told (imported_line conference) (Err (of_journal error)))
      unimported error changes still = works_same Stores (imports conference file now) same
          (unchanged_by (Imports conference file now) at kept finds found b kept_is i.change (imported_line conference i.count) takes (imported_line conference) error changes still)
