-- What is kept of a board between two entries of a run.
use Rattle.std.specs.Prelude.{◌≡◌, if◌then◌else◌, Option, Some, None, Result, Ok, Err}
use Rattle.door_outside.specs.Disk.{Disk}
use Rattle.entry_runs.specs.declared.stop.Stop.{Stop}
use Rattle.entry_runs.specs.declared.stop.Stop.TheVariants as stop
use Rattle.intent_journal.specs.Hosts.{IsCalm, IsSettled}
use Rattle.board_layout.specs.Board.{Board}
use Rattle.board_layout.specs.Damage.{board_damage}
use Rattle.board_layout.specs.Layout.{AreEmpty}
use Rattle.board_layout.specs.declared.error.ReadError.{ReadError}
use Rattle.board_layout.specs.declared.error.ReadError.TheVariants.{Damaged, DiskFault, OutOfMemory}
use Rattle.board_layout.specs.Valid.{IsBoard}
use Rattle.mail_board.specs.Held.{AreAlike, HeldBoard, RestsOn}
use Rattle.mail_board.specs.Loading.{IsSureLoad, IsValid}
use Rattle.mail_board.specs.declared.loading.Loaded.{Loaded}
use Rattle.mail_board.specs.declared.loading.Loaded.TheVariants.{NotMade, Ready}
use Rattle.cmd_board.specs.State.{State, Spoiled}
use Rattle.cmd_board.specs.State as state

-- the host rests, and its files are those of a board with the outline that was read, or empty; where nothing was read the
-- host is settled
abbrev pub IsKept : Option Loaded → Disk → Type 0
IsKept None disk = IsSettled disk
IsKept (Some NotMade) disk = IsCalm disk × AreEmpty disk.files
IsKept (Some (Ready held)) disk = RestsOn held.board disk

-- and the board is valid, and in no doubt
abbrev pub AreSure : Option Loaded → Type 0
AreSure None = Unit {0}
AreSure (Some loaded) = IsValid loaded × IsSureLoad loaded

-- a board is kept, unless it is in doubt
abbrev pub unless_doubtful : HeldBoard → Option Loaded
unless_doubtful held = if held.doubtful then None else Some (Ready held)

-- the board that is kept, of whose bodies the lengths alone count
abbrev pub kept_board : Option Loaded → Option Board
kept_board None = None
kept_board (Some NotMade) = None
kept_board (Some (Ready held)) = Some held.board

-- a valid board has the outline of the one that is kept, or there is none of either
abbrev pub AreLike : Option Board → Option Board → Type 0
AreLike None None = Unit {0}
AreLike None (Some kept) = ⊥
AreLike (Some board) None = ⊥
AreLike (Some board) (Some kept) = IsBoard board × AreAlike board kept

-- the state is that of such a board
abbrev pub IsOutlined : State → Option Board → Type 0
IsOutlined s kept = (board : Option Board) × (s ≡ state.state_of board) × AreLike board kept

abbrev pub IsBoardRead : Option Loaded → Type 0
IsBoardRead None = ⊥
IsBoardRead (Some loaded) = Unit {0}

-- files that are no board's are an answer, and no stop
abbrev pub found : Result (Unit {0}) ReadError → Result (Unit {0}) Stop
found (Ok x) = Ok x
found (Err (Damaged d)) = Ok (tt {0})
found (Err DiskFault) = Err stop.DiskFault
found (Err OutOfMemory) = Err stop.OutOfMemory

-- what was found stands for the state once that is migrated: the outline of the board, or none, or the damage of its files
abbrev pub IsStateFound : State → Option Loaded → Result (Unit {0}) ReadError → Type 0
IsStateFound s kept (Ok x) = IsOutlined (state.migrated s) (kept_board kept)
IsStateFound s kept (Err (Damaged d)) = (held : _) × (s ≡ Spoiled held) × (board_damage held ≡ Some d)
IsStateFound s kept (Err DiskFault) = Unit {0}
IsStateFound s kept (Err OutOfMemory) = Unit {0}
