-- How much a command that posts messages writes.
use Rattle.std.specs.Prelude.{◌≡◌, ℕ, ◌+◌, ◌-◌, ◌*◌, ◌≤◌}
use Rattle.door_outside.specs.Disk.{Disk}
use Rattle.door_outside.specs.Shelf.{ShelfFiles}
use Rattle.entry_runs.specs.Door.{Act, World, here}
use Rattle.entry_runs.specs.Runs.{Stepped}
use Rattle.intent_journal.specs.Recovered.{recovered}
use Rattle.board_layout.specs.Layout.{board_size}
use Rattle.mail_board.specs.Written.{slot_total}
use Rattle.cmd_board.specs.State.{State, NotMade, Made, Old, Spoiled, Stores, migrated}

-- how many bytes the data files of the board have, where there is one
abbrev pub size_of_board : State → ℕ
size_of_board NotMade = 0
size_of_board (Made b) = board_size b
size_of_board (Old b) = board_size b
size_of_board (Spoiled held) = 0

-- and how many slots it has
abbrev pub slots_of_board : State → ℕ
slots_of_board NotMade = 0
slots_of_board (Made b) = slot_total b
slots_of_board (Old b) = slot_total b
slots_of_board (Spoiled held) = 0

-- The bytes written so far rose by at most twice those by which the data files are longer in the next state, and 400 for each
-- message that was posted, which is a slot more, and once more.
abbrev pub WritesWithin : State → State → ℕ → ℕ → Type 0
WritesWithin state next before now = now ≤ before + 2 * ((size_of_board next - size_of_board state) + 200 * ((slots_of_board next - slots_of_board state) + 1))

-- So they did by whatever an act does in the state for which the files at entry stand, where that isn't to be migrated.
abbrev pub KeepsWriteBound : Act State → Disk → Disk → ShelfFiles → Type 0
KeepsWriteBound act old new shelf =
    (state : State) → Stores state (recovered old.files) → migrated state ≡ state → (stepped : Stepped (World State)) → act.Step (here state shelf) stepped
    → WritesWithin state stepped.world.state old.wrote new.wrote

-- So they did from the state for which the files at entry stand to that for which they stand at exit. That asks nothing of
-- the shelf.
abbrev pub FilesKeepBound : Disk → Disk → Type 0
FilesKeepBound old new =
    (state next : State) → Stores state (recovered old.files) → migrated state ≡ state → Stores next (recovered new.files)
    → WritesWithin state next old.wrote new.wrote
