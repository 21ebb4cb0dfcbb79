-- The turns of `sample` give what a lawful act asks.
use Rattle.std.proofs.Common.{◌≡◌, ◌≢◌, ℕ, [], Option, Some, None}
use Rattle.cmd_board.proofs.BoardActs.{AreTurns}
use Rattle.cmd_board.proofs.TurnLaws.{IsTurn, refuses_is, turns_of}
use Rattle.cmd_board.specs.Enroll.{first_refusal}
use Rattle.board_layout.specs.Board.{Board}
use Rattle.cmd_messages.specs.Sample.{sample_refusals, sample_turn, sampled_line, sampling}
use Rattle.cmd_board.specs.shelf_files.declared.refusal.Refusal.{Refusal}
use Rattle.cmd_board.specs.shelf_files.declared.refusal.Refusal.TheVariants.{NotMade}

line_some : (count : ℕ) → sampled_line count ≢ []
line_some count is = absurd (cc is)

module _ (seed count now : ℕ) where
  sampling_is : (b : Board) (why : Option Refusal) → IsTurn (Some b) (sampling seed count now b why)
  sampling_is b (Some why) = refuses_is why (Some b)
  sampling_is b None = record { says = line_some count; refused = λ is. absurd (cc is); undamaged = λ is. absurd (cc is) }

  turn_is : (board : Option Board) → IsTurn board (sample_turn seed count now board)
  turn_is None = refuses_is NotMade None
  turn_is (Some b) = sampling_is b (first_refusal (sample_refusals seed count now b))

pub sample_turns : (seed count now : ℕ) → AreTurns (λ shelf board turn. turn ≡ sample_turn seed count now board)
sample_turns seed count now = turns_of (sample_turn seed count now) (turn_is seed count now)
