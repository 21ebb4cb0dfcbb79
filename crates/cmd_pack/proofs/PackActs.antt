-- The turns of `pack` give what a lawful act asks.
use Rattle.std.proofs.Common.{◌≡◌, ◌≢◌, ℕ, [], Option, Some, None}
use Rattle.cmd_board.proofs.BoardActs.{AreTurns}
use Rattle.cmd_board.proofs.TurnLaws.{IsTurn, done_is, refuses_is, turns_of}
use Rattle.board_layout.specs.Board.{Board}
use Rattle.board_layout.specs.Lookups.{place_of}
use Rattle.cmd_board.specs.shelf_files.declared.refusal.Refusal.TheVariants.{NotMade, NoConference}
use Rattle.jam_pack.specs.slot_changes.Packed.{packed, packed_count}
use Rattle.cmd_pack.specs.Pack.{pack_at, pack_turn, packed_line}

packed_some : (conference count : ℕ) → packed_line conference count ≢ []
packed_some conference count is = absurd (cc is)

module _ (conference : ℕ) where
  at_is : (b : Board) (place : Option ℕ) → IsTurn (Some b) (pack_at conference b place)
  at_is b None = refuses_is NoConference (Some b)
  at_is b (Some place) = done_is (Some b) (Some (packed place b)) (packed_line conference (packed_count place b)) (packed_some conference (packed_count place b))

  turn_is : (board : Option Board) → IsTurn board (pack_turn conference board)
  turn_is None = refuses_is NotMade None
  turn_is (Some b) = at_is b (place_of conference b)

  pub pack_turns : AreTurns (λ shelf board turn. turn ≡ pack_turn conference board)
  pack_turns = turns_of (pack_turn conference) turn_is
