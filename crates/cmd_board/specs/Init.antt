-- The command `init`.
use Rattle.std.specs.Prelude.{◌≡◌, ℕ, List, ◌++◌, length, codes, decimal, Option, Some, None, Result, Ok, Err}
use Rattle.door_outside.specs.Shelf.{ShelfFiles}
use Rattle.entry_runs.specs.Door.{Act}
use Rattle.mail_board.specs.board_changes.Changed.{made}
use Rattle.board_layout.specs.Board.{Board}
use Rattle.setup_file.specs.Fault.{SetupFault}
use Rattle.setup_file.specs.Reads.{SetupReads}
use Rattle.setup_file.specs.declared.error.SetupRule.{SetupRule}
use Rattle.setup_file.specs.declared.fields.SetupFields.{SetupFields}
use Rattle.shelf_files.specs.Halts.{done}
use Rattle.shelf_files.specs.ShelfFile.{ReadAs, file_within, file_limit}
use Rattle.shelf_files.specs.declared.refusal.Refusal.{Refusal}
use Rattle.shelf_files.specs.declared.refusal.Refusal.TheVariants as refusal
use Rattle.cmd_board.specs.State.{State}
use Rattle.cmd_board.specs.Turns.{Turn, refuses, on_board}

-- the first failing line of a setup file, and its rule
abbrev pub BreaksSetup : List ℕ → ℕ × SetupRule → Type 0
BreaksSetup bytes fault = SetupFault bytes fault.0 fault.1

-- what a setup file says, or the first refusal
abbrev pub SetupOf : ShelfFiles → List ℕ → Result SetupFields Refusal → Type 0
SetupOf shelf name read = ReadAs SetupReads BreaksSetup (λ fault. refusal.Setup fault.0 fault.1) (file_within shelf name file_limit) read

abbrev pub made_line : ℕ → List ℕ
made_line count = codes "made " ++ (decimal count ++ codes " conferences\n")

-- the board of the setup, or none where it is refused
abbrev pub made_of : ℕ → Result SetupFields Refusal → Turn
made_of now (Err why) = refuses why None
made_of now (Ok setup) = record { board = Some (made setup now); reply = done (made_line (length setup.conferences)) }

abbrev pub Inits : List ℕ → ℕ → ShelfFiles → Option Board → Turn → Type 0
Inits file now shelf (Some b) turn = turn ≡ refuses refusal.Exists (Some b)
Inits file now shelf None turn = (read : Result SetupFields Refusal) × SetupOf shelf file read × (turn ≡ made_of now read)

abbrev pub inits : List ℕ → ℕ → Act State
inits file now = on_board (Inits file now)
