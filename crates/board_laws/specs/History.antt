-- Entries that were taken one after the other, each at a moment and on a shelf of its own: so they may be those of many
-- runs, with what crashes between them leave.
use Rattle.std.specs.Prelude.{◌≡◌, ◌≢◌, ℕ, zero, suc, List, slice_get, Option, Some, None}
use Rattle.door_outside.specs.Shelf.{ShelfFiles}
use Rattle.entry_runs.specs.Door.{World, here}
use Rattle.entry_runs.specs.Runs.{Stepped}
use Rattle.entry_runs.specs.declared.class.Class.TheVariants.{Done}
use Rattle.cmd_messages.specs.cmd_board.State.{State, NotMade, Made, Old, Spoiled, migrated}
use Rattle.board_layout.specs.Board.{Board}
use Rattle.board_layout.specs.Valid.{IsBoard}

-- an entry, its moment and its shelf, and what it did
pub record Deed (Entry : Type 0) : Type 0 where
  pub entry : Entry
  pub now : ℕ
  pub shelf : ShelfFiles
  pub stepped : Stepped (World State)

-- what an entry does at a moment
abbrev pub Steps : Type 0 → Type 1
Steps Entry = ℕ → Entry → World State → Stepped (World State) → Type 0

-- a state with which a history may begin: no board, or a valid one, in files of either version
abbrev pub IsBeginning : State → Type 0
IsBeginning NotMade = Unit {0}
IsBeginning (Made b) = IsBoard b
IsBeginning (Old b) = IsBoard b
IsBeginning (Spoiled files) = ⊥

module _ {Entry : Type 0} where
  -- the state that a deed leaves, where there is one
  abbrev pub left_by : State → Option (Deed Entry) → State
  left_by state None = state
  left_by state (Some deed) = deed.stepped.world.state

  -- the state after the first deeds, so many of them
  abbrev pub after : State → List (Deed Entry) → ℕ → State
  after start deeds zero = start
  after start deeds (suc n) = left_by (after start deeds n) (slice_get deeds n)

  -- they lead to this board, in files of either version
  abbrev pub LeadsTo : State → List (Deed Entry) → ℕ → Board → Type 0
  LeadsTo start deeds n b = migrated (after start deeds n) ≡ Made b

  -- from a state on, each deed is what its entry does in the state after those before it
  abbrev pub IsHistory : Steps Entry → State → List (Deed Entry) → Type 0
  IsHistory Step start deeds = (n : ℕ) (deed : Deed Entry) → slice_get deeds n ≡ Some deed → Step deed.now deed.entry (here (after start deeds n) deed.shelf) deed.stepped

  -- the deed in a place changes the board, or makes it: one that only migrates it doesn't
  abbrev pub ChangesBoard : State → List (Deed Entry) → ℕ → Type 0
  ChangesBoard start deeds n = migrated (after start deeds (suc n)) ≢ migrated (after start deeds n)

  -- the deed in a place is carried out on this board: it isn't refused
  pub record IsCarriedOut (start : State) (deeds : List (Deed Entry)) (n : ℕ) (deed : Deed Entry) (board : Board) : Type 0 where
    pub there : slice_get deeds n ≡ Some deed
    pub board_is : LeadsTo start deeds n board
    pub done : deed.stepped.class ≡ Done
