-- The command `adopt`.
use Rattle.std.specs.Prelude.{◌≡◌, ℕ, List, length, Option, Some, None, Result, Ok, Err}
use Rattle.cmd_board.specs.State.{State}
use Rattle.cmd_board.specs.Turns.{Turn, refuses, on_board}
use Rattle.board_layout.specs.Board.{Board}
use Rattle.board_layout.specs.Lookups.{place_of}
use Rattle.door_outside.specs.Shelf.{ShelfFiles}
use Rattle.entry_runs.specs.Door.{Act}
use Rattle.jam_adopt.specs.declared.found.Found.{Found}
use Rattle.mail_intake.specs.Lines.{intake_text}
use Rattle.post_changes.specs.Posted.{spread}
use Rattle.shelf_files.specs.Halts.{done}
use Rattle.shelf_files.specs.declared.refusal.Refusal.{Refusal}
use Rattle.shelf_files.specs.declared.refusal.Refusal.TheVariants.{NotMade, NoConference}
use Rattle.cmd_adopt.specs.Adopted.{adopted}
use Rattle.cmd_adopt.specs.BaseFiles.{base_of}

-- the messages of the records are posted in one change, as far as there is room
abbrev pub adopting : ℕ → ℕ → Board → List Found → Turn
adopting conference place b records = record {
  board = Some (spread (adopted conference place b records).1 b);
  reply = done (intake_text (length records) (adopted conference place b records));
}

-- what was read of the base, or why nothing was
abbrev pub base_turn : ℕ → ℕ → Board → Result (List Found) Refusal → Turn
base_turn conference place b (Err why) = refuses why (Some b)
base_turn conference place b (Ok records) = adopting conference place b records

-- the place of the conference, which is looked for before the files
abbrev pub adopt_at : ℕ → List ℕ → ShelfFiles → Board → Option ℕ → Turn
adopt_at conference prefix shelf b None = refuses NoConference (Some b)
adopt_at conference prefix shelf b (Some place) = base_turn conference place b (base_of shelf prefix)

abbrev pub adopt_turn : ℕ → List ℕ → ShelfFiles → Option Board → Turn
adopt_turn conference prefix shelf None = refuses NotMade None
adopt_turn conference prefix shelf (Some b) = adopt_at conference prefix shelf b (place_of conference b)

abbrev pub adopts : ℕ → List ℕ → Act State
adopts conference prefix = on_board (λ shelf board turn. turn ≡ adopt_turn conference prefix shelf board)
