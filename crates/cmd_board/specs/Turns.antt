-- What a command that touches the board does.
use Rattle.std.specs.Prelude.{◌≡◌, Option, Some, None}
use Rattle.door_outside.specs.Shelf as Shelf
use Rattle.entry_runs.specs.Door.{Act, board_only}
use Rattle.entry_runs.specs.Entry.{Reply}
use Rattle.intent_journal.specs.Patches.{HostFiles}
use Rattle.board_layout.specs.Board.{Board}
use Rattle.board_layout.specs.Damage.{board_damage}
use Rattle.jam_records.specs.declared.damage.Damage.{Damage}
use Rattle.shelf_files.specs.Halts.{refused}
use Rattle.shelf_files.specs.declared.refusal.Refusal.{Refusal}
use Rattle.cmd_board.specs.Damages.{damaged}
use Rattle.cmd_board.specs.State.{State, NotMade, Made, Old, Spoiled, migrated, state_of}

-- the board after a command, where there is one, and what is to be said
pub record Turn : Type 0 where
  pub board : Option Board
  pub reply : Reply

-- it is refused, and leaves the board
abbrev pub refuses : Refusal → Option Board → Turn
refuses why board = record { board = board; reply = refused why }

-- the damage of the files is said
abbrev pub SaysDamage : HostFiles → Reply → Type 0
SaysDamage held reply = (d : Damage) × (board_damage held ≡ Some d) × (reply ≡ damaged d)

-- a board, or none, takes such a turn
abbrev pub Takes : (Option Board → Turn → Type 0) → Option Board → State → Reply → Type 0
Takes turns board next reply = (turn : Turn) × turns board turn × (next ≡ state_of turn.board) × (reply ≡ turn.reply)

-- Damage comes before all else: on files that are no board's nothing else is said, and nothing changes.
abbrev pub OnState : (Option Board → Turn → Type 0) → State → State → Reply → Type 0
OnState turns NotMade next reply = Takes turns None next reply
OnState turns (Made b) next reply = Takes turns (Some b) next reply
OnState turns (Old b) next reply = Takes turns (Some b) next reply
OnState turns (Spoiled held) next reply = (next ≡ Spoiled held) × SaysDamage held reply

-- a command that may look at the shelf, and changes the board alone
abbrev pub on_board : (Shelf.ShelfFiles → Option Board → Turn → Type 0) → Act State
on_board turns = record {
  Step = λ world stepped.
      (stepped.world.shelf ≡ world.shelf)
      × OnState (turns world.shelf) world.state stepped.world.state (record { text = stepped.reply; class = stepped.class });
  reach = board_only;
  migrated = migrated;
}
