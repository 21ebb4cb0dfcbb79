-- What the entries of a run mean: what a crate with entries of its own gives to the promise of a run.
use Rattle.std.specs.Prelude.{◌≡◌, ◌≢◌, ◌↔◌, ℕ, Bool, true, false, List, [], IsTrue}
use Rattle.std.specs.List.{list_any}
use Rattle.door_outside.specs.Shelf as Shelf
use Rattle.door_outside.specs.Shelf.{SameBut}
use Rattle.intent_journal.specs.Patches.{HostFiles}
use Rattle.entry_runs.specs.Runs.{Stepped}
use Rattle.entry_runs.specs.declared.class.Class.TheVariants.{Refused, Damaged}

-- the state of the board, and the shelf
pub record World (State : Type 0) : Type 0 where
  pub state : State
  pub shelf : Shelf.ShelfFiles

abbrev pub here : {State : Type 0} → State → Shelf.ShelfFiles → World State
here state shelf = record { state = state; shelf = shelf }

-- what an entry may reach
pub record Reach : Type 0 where
  -- it touches the board: only such an entry reads or changes the data files
  pub board : Bool
  -- it changes the board first, and writes to the shelf after that
  pub exports : Bool
  -- the names on the shelf that it may write
  pub names : List (List ℕ)

-- it reads or changes the board, and writes nothing to the shelf
abbrev pub board_only : Reach
board_only = record { board = true; exports = false; names = [] }

-- it leaves the board, and may write these names
abbrev pub shelf_only : List (List ℕ) → Reach
shelf_only names = record { board = false; exports = false; names = names }

-- it changes the board, and then writes these names
abbrev pub board_then_shelf : List (List ℕ) → Reach
board_then_shelf names = record { board = true; exports = true; names = names }

-- what one entry does, and what it may reach
pub record Act (State : Type 0) : Type 1 where
  pub Step : World State → Stepped (World State) → Type 0
  pub reach : Reach
  -- Where it touches the board, what it makes of that before all else: the same board in files of today's form. A
  -- board in such files it leaves.
  pub migrated : State → State

-- the world in which an entry does what it does: the board was migrated
abbrev pub migrated_world : {State : Type 0} → Act State → World State → World State
migrated_world act world = here (act.migrated world.state) world.shelf

-- What holds of every act. A crate proves it of each of its entries.
pub record IsLawful {State : Type 0} (act : Act State) : Type 0 where
  -- an entry that doesn't touch the board leaves it
  pub leaves_board : act.reach.board ≡ false → (world : World State) (stepped : Stepped (World State)) → act.Step world stepped → stepped.world.state ≡ world.state
  -- it writes no names on the shelf but those that it may
  pub within_reach : (world : World State) (stepped : Stepped (World State)) → act.Step world stepped → SameBut act.reach.names world.shelf stepped.world.shelf
  -- it says something: so an entry whose whole reply was said is held after a crash
  pub says_something : (world : World State) (stepped : Stepped (World State)) → act.Step world stepped → stepped.reply ≢ []
  -- where it is refused it changes neither board nor shelf, but that the board is migrated
  pub refusals_change_nothing : (world : World State) (stepped : Stepped (World State)) → act.Step world stepped → stepped.class ≡ Refused → stepped.world ≡ migrated_world act world
  -- from the migrated board it does what it does from the board
  pub same_migrated : (world : World State) (stepped : Stepped (World State)) → act.Step (migrated_world act world) stepped ↔ act.Step world stepped
  -- what was migrated stays, and so does what an entry leaves that touches the board
  pub migrated_once : (state : State) → act.migrated (act.migrated state) ≡ act.migrated state
  pub leaves_migrated : IsTrue act.reach.board → (world : World State) (stepped : Stepped (World State)) → act.Step world stepped → act.migrated stepped.world.state ≡ stepped.world.state
  -- it answers damage only where it touches the board
  pub damage_of_board : (world : World State) (stepped : Stepped (World State)) → act.Step world stepped → stepped.class ≡ Damaged → IsTrue act.reach.board
  -- from a world it does one thing at most
  pub one_outcome : (world : World State) (one other : Stepped (World State)) → act.Step world one → act.Step world other → one ≡ other

-- what stands for a board, and what each entry does
pub record Door (State Entry : Type 0) : Type 1 where
  -- these data files stand for the board
  pub Stores : State → HostFiles → Type 0
  pub act : Entry → Act State

module _ {State Entry : Type 0} (door : Door State Entry) where
  -- what an entry does in a world
  abbrev pub Step : World State → Entry → Stepped (World State) → Type 0
  Step world entry stepped = (door.act entry).Step world stepped

  -- the entry touches the board
  abbrev pub touches : Entry → Bool
  touches entry = (door.act entry).reach.board

  -- one of the entries does
  abbrev pub any_touches : List Entry → Bool
  any_touches entries = list_any touches entries

  -- a crate proves this of its door
  abbrev pub AreLawful : Type 0
  AreLawful = (entry : Entry) → IsLawful (door.act entry)
