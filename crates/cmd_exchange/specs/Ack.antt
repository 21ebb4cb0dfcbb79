-- The command `ack`.
use Rattle.std.specs.Prelude.{◌≡◌, ℕ, List, ◌++◌, codes, decimal, Option, Some, None, Result, Ok, Err}
use Rattle.cmd_board.specs.State.{State}
use Rattle.cmd_board.specs.Turns.{Turn, refuses, on_board}
use Rattle.board_layout.specs.Board.{Board}
use Rattle.door_export.specs.Ack.{AckRefusal, ack_of}
use Rattle.door_export.specs.Ack as why
use Rattle.entry_runs.specs.Door.{Act}
use Rattle.shelf_files.specs.Halts.{done}
use Rattle.shelf_files.specs.declared.refusal.Refusal.{Refusal}
use Rattle.shelf_files.specs.declared.refusal.Refusal.TheVariants.{NotMade, NoUser, NoPacket}

-- the number of the packet
abbrev pub acknowledged_line : ℕ → List ℕ
acknowledged_line packet = codes "acknowledged " ++ (decimal packet ++ codes "\n")

-- the refusal of the command
abbrev pub ack_refusal : AckRefusal → Refusal
ack_refusal why.NoUser = NoUser
ack_refusal (why.NoPacket offer) = NoPacket offer

-- the packet is acknowledged, unless that is refused
abbrev pub acknowledged_turn : ℕ → Board → Result Board AckRefusal → Turn
acknowledged_turn packet b (Ok next) = record { board = Some next; reply = done (acknowledged_line packet) }
acknowledged_turn packet b (Err refusal) = refuses (ack_refusal refusal) (Some b)

abbrev pub ack_turn : List ℕ → ℕ → ℕ → Option Board → Turn
ack_turn name packet now None = refuses NotMade None
ack_turn name packet now (Some b) = acknowledged_turn packet b (ack_of name packet now b)

abbrev pub acknowledges : List ℕ → ℕ → ℕ → Act State
acknowledges name packet now = on_board (λ shelf board turn. turn ≡ ack_turn name packet now board)
