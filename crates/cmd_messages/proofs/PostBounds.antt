-- An import and a sample write no more than the messages that they post may.
use Rattle.std.proofs.Common.{◌≡◌, ℕ, List, Option, Some, Ok, refl, sym, ◌∙◌}
use Rattle.cmd_board.proofs.WriteLaws.{turned_within, WritesFound}
use Rattle.cmd_board.specs.Kept.{IsOutlined}
use Rattle.cmd_board.specs.State.{State, Stores, migrated}
use Rattle.cmd_board.specs.WriteBound.{KeepsWriteBound}
use Rattle.board_layout.specs.Board.{Board}
use Rattle.board_layout.specs.Valid.{IsBoard}
use Rattle.board_layout.specs.Lookups.{place_of}
use Rattle.door_outside.specs.Disk.{Disk}
use Rattle.door_outside.specs.Shelf as Shelf
use Rattle.import_sheet.specs.declared.sheet.Sheet.{Sheet}
use Rattle.intent_journal.specs.Journal.{IsClosed}
use Rattle.intent_journal.specs.Recovered.{recovered}
use Rattle.cmd_board.proofs.mail_board.EachNext.{changed_alike}
use Rattle.cmd_board.proofs.mail_board.PostedSlots.{posting_keeps}
use Rattle.cmd_board.specs.mail_board.Changes.{changed}
use Rattle.cmd_board.specs.mail_board.Written.{WritesFew}
use Rattle.cmd_board.specs.mail_board.declared.change.Change.{Change}
use Rattle.cmd_board.proofs.ChangeExits.{carried}
use Rattle.cmd_messages.proofs.ImportAlike.{sheet_taken}
use Rattle.cmd_messages.proofs.ImportExits.{placed}
use Rattle.cmd_messages.proofs.MessageActs.{import_turns}
use Rattle.cmd_board.proofs.PlaceAlike.{place_alike}
use Rattle.cmd_messages.proofs.SampleActs.{sample_turns}
use Rattle.cmd_messages.proofs.SampleAlike.{sample_taken}
use Rattle.cmd_messages.specs.Import.{Imports, imported_line, imports}
use Rattle.cmd_messages.specs.Importing.{MayImport}
use Rattle.cmd_messages.specs.Sample.{sample_turn, sampled_line, samples}
use Rattle.cmd_messages.specs.Sampling.{MaySample}
use Rattle.cmd_messages.specs.declared.importing.Importing.{Importing}
use Rattle.cmd_board.specs.shelf_files.Sheets.{SheetOf}

module _ (old mid new : Disk) (shelf : Shelf.ShelfFiles) (closed : IsClosed (old.files 1)) (found : WritesFound old mid.wrote) (kept : Option Board)
    (stands : (state : State) → Stores state (recovered old.files) → IsOutlined (migrated state) kept) (b : Board) (kept_is : kept ≡ Some b) (ok : IsBoard b) where
  pub import_within : (conference : ℕ) (file : List ℕ) (now place : ℕ) → place_of conference b ≡ Some place → (entries : List Sheet) → SheetOf shelf file (Ok entries) → (i : Importing) → MayImport conference now place entries b (Ok i)
      → WritesFew i.change b mid.wrote new.wrote → KeepsWriteBound (imports conference file now) old new shelf
  import_within conference file now place place_is entries reads i may few =
      let line : List ℕ = imported_line conference i.count in
      turned_within (Imports conference file now) (import_turns conference file now) old mid new shelf closed found kept stands b kept_is (changed i.change) (λ real alike. changed_alike real b alike i.change) (λ real. carried i.change real line)
      (λ real valid alike. (
        placed conference file now shelf real place (place_alike real b alike conference ∙ place_is) (Ok entries) reads (carried i.change real line) (sym (sheet_taken conference now place entries real b alike i.change line may.3 may.1)),
        refl,
      ))
      (posting_keeps i.change b mid.wrote new.wrote may.2 ok may.0 few)

  pub sample_within : (seed count now : ℕ) (change : Change) → MaySample seed count now b (Ok change) → WritesFew change b mid.wrote new.wrote → KeepsWriteBound (samples seed count now) old new shelf
  sample_within seed count now change may few =
      turned_within (λ files taken turn. turn ≡ sample_turn seed count now taken) (sample_turns seed count now) old mid new shelf closed found kept stands b kept_is (changed change) (λ real alike. changed_alike real b alike change)
      (λ real. carried change real (sampled_line count)) (λ real valid alike. (sym (sample_taken seed count now real b alike change (sampled_line count) may.3 may.1), refl))
      (posting_keeps change b mid.wrote new.wrote may.2 ok may.0 few)
