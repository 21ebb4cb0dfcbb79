-- The command `toss`.
use Rattle.std.specs.Prelude.{◌≡◌, ℕ, List, length, Option, Some, None, Result, Ok, Err}
use Rattle.cmd_board.specs.State.{State}
use Rattle.cmd_board.specs.Turns.{Turn, refuses, on_board}
use Rattle.board_layout.specs.Board.{Board}
use Rattle.door_outside.specs.Shelf.{ShelfFiles}
use Rattle.entry_runs.specs.Door.{Act}
use Rattle.fts_packet.specs.declared.packet.FtsMessage.{FtsMessage}
use Rattle.mail_intake.specs.Lines.{intake_text}
use Rattle.post_changes.specs.Posted.{spread}
use Rattle.shelf_files.specs.Halts.{done}
use Rattle.shelf_files.specs.declared.refusal.Refusal.{Refusal}
use Rattle.shelf_files.specs.declared.refusal.Refusal.TheVariants.{NotMade}
use Rattle.cmd_toss.specs.PacketFiles.{FtsPacketOf}
use Rattle.cmd_toss.specs.Tossed.{tossed}

-- the messages that no rule refuses are posted in one change
abbrev pub tossing : ℕ → Board → List FtsMessage → Turn
tossing now b messages = record {
  board = Some (spread (tossed b now messages).1 b);
  reply = done (intake_text (length messages) (tossed b now messages));
}

-- what was read of the packet, or why nothing was
abbrev pub packet_turn : ℕ → Board → Result (List FtsMessage) Refusal → Turn
packet_turn now b (Err why) = refuses why (Some b)
packet_turn now b (Ok messages) = tossing now b messages

abbrev pub Tosses : List ℕ → ℕ → ShelfFiles → Option Board → Turn → Type 0
Tosses file now shelf None turn = turn ≡ refuses NotMade None
Tosses file now shelf (Some b) turn = (read : Result (List FtsMessage) Refusal) × FtsPacketOf shelf file read × (turn ≡ packet_turn now b read)

abbrev pub tosses : List ℕ → ℕ → Act State
tosses file now = on_board (Tosses file now)
