-- What a command does that changes the board, and then writes files of the shelf.
use Rattle.std.specs.Prelude.{◌≡◌, ℕ, List, Option, Some, None}
use Rattle.cmd_board.specs.State.{State, NotMade, Made, Old, Spoiled, migrated, state_of}
use Rattle.cmd_board.specs.Turns.{SaysDamage}
use Rattle.board_layout.specs.Board.{Board}
use Rattle.door_outside.specs.Shelf.{ShelfFiles}
use Rattle.entry_runs.specs.Door.{Act, board_then_shelf}
use Rattle.entry_runs.specs.Entry.{Reply}
use Rattle.shelf_files.specs.Halts.{refused}
use Rattle.shelf_files.specs.declared.refusal.Refusal.{Refusal}

-- the board after it, where there is one, the shelf, and what is to be said
pub record Handing : Type 0 where
  pub board : Option Board
  pub shelf : ShelfFiles
  pub reply : Reply

-- it is refused, and leaves both
abbrev pub refused_handing : Refusal → ShelfFiles → Option Board → Handing
refused_handing why shelf board = record { board = board; shelf = shelf; reply = refused why }

-- a board, or none, is handed out so
abbrev pub Hands : (Option Board → Handing → Type 0) → Option Board → State → ShelfFiles → Reply → Type 0
Hands hands board next shelf reply =
    (handing : Handing) × hands board handing × (next ≡ state_of handing.board) × (shelf ≡ handing.shelf) × (reply ≡ handing.reply)

-- Damage comes before all else, as for every command that touches the board.
abbrev pub HandsOnState : (Option Board → Handing → Type 0) → State → ShelfFiles → State → ShelfFiles → Reply → Type 0
HandsOnState hands NotMade old next new reply = Hands hands None next new reply
HandsOnState hands (Made b) old next new reply = Hands hands (Some b) next new reply
HandsOnState hands (Old b) old next new reply = Hands hands (Some b) next new reply
HandsOnState hands (Spoiled held) old next new reply = (next ≡ Spoiled held) × (new ≡ old) × SaysDamage held reply

-- a command that changes the board, and then writes these names
abbrev pub on_board_then_shelf : List (List ℕ) → (ShelfFiles → Option Board → Handing → Type 0) → Act State
on_board_then_shelf names hands = record {
  Step = λ world stepped.
      HandsOnState (hands world.shelf) world.state world.shelf stepped.world.state stepped.world.shelf (record { text = stepped.reply; class = stepped.class });
  reach = board_then_shelf names;
  migrated = migrated;
}
