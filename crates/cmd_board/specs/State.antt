-- What the data files of a host stand for.
use Rattle.std.specs.Prelude.{◌≡◌, Option, Some, None}
use Rattle.intent_journal.specs.Patches.{HostFiles, data_files}
use Rattle.board_layout.specs.Board.{Board}
use Rattle.board_layout.specs.Layout.{AreEmpty, IsLayout}
use Rattle.board_layout.specs.OldLayout.{IsOldLayout, IsStoredIn}
use Rattle.board_layout.specs.Valid.{IsBoard}

pub data State : Type 0 where
  -- there is no board
  NotMade : State
  -- this board
  Made : Board → State
  -- this board, in files of the ledger's first version
  Old : Board → State
  -- files that are no board's
  Spoiled : HostFiles → State

-- the files are neither all empty nor the layout of a board in either version
pub record AreSpoiled (files : HostFiles) : Type 0 where
  pub some : ¬ AreEmpty files
  pub other : (b : Board) → IsBoard b → ¬ IsStoredIn b files

-- these data files stand for the state
abbrev pub Stores : State → HostFiles → Type 0
Stores NotMade files = AreEmpty files
Stores (Made b) files = IsBoard b × IsLayout b files
Stores (Old b) files = IsBoard b × IsOldLayout b files
Stores (Spoiled held) files = (held ≡ data_files files) × AreSpoiled files

abbrev pub IsSpoiled : State → Type 0
IsSpoiled NotMade = ⊥
IsSpoiled (Made b) = ⊥
IsSpoiled (Old b) = ⊥
IsSpoiled (Spoiled held) = Unit {0}

-- what a command that touches the board makes of it before all else: the same board in files of today's version
abbrev pub migrated : State → State
migrated NotMade = NotMade
migrated (Made b) = Made b
migrated (Old b) = Made b
migrated (Spoiled held) = Spoiled held

-- a board, or none
abbrev pub state_of : Option Board → State
state_of None = NotMade
state_of (Some b) = Made b
