-- What is found before messages are imported.
use Rattle.std.specs.Prelude.{◌≡◌, ℕ, List, Some, Result, Ok, Err}
use Rattle.cmd_board.specs.Halts.{StopsBy}
use Rattle.cmd_board.specs.Turns.{refuses}
use Rattle.cmd_board.specs.declared.halt.BoardHalt.{BoardHalt}
use Rattle.board_layout.specs.Board.{Board}
use Rattle.import_sheet.specs.declared.sheet.Sheet.{Sheet}
use Rattle.cmd_board.specs.mail_board.Changes.{changed, Fits}
use Rattle.cmd_board.specs.mail_board.Written.{IsPosting}
use Rattle.cmd_board.specs.mail_board.declared.change.Change.TheVariants.{Append}
use Rattle.cmd_board.specs.shelf_files.Halts.{done}
use Rattle.cmd_messages.specs.Import.{imported_line, imported_messages, sheet_turn}
use Rattle.cmd_messages.specs.declared.importing.Importing.{Importing}

-- a change that fits, posts messages and takes the turn, the one that appends what the entries become; or the refusal, or memory
-- ran out
abbrev pub MayImport : ℕ → ℕ → ℕ → List Sheet → Board → Result Importing BoardHalt → Type 0
MayImport conference now place entries b (Ok i) =
    Fits i.change b
    × (sheet_turn conference now place b (Ok entries) ≡ record { board = Some (changed i.change b); reply = done (imported_line conference i.count) })
    × IsPosting i.change × (i.change ≡ Append place (imported_messages now place b entries))
MayImport conference now place entries b (Err e) = StopsBy (λ why. sheet_turn conference now place b (Ok entries) ≡ refuses why (Some b)) e
