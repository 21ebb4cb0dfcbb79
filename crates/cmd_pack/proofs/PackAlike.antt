-- Boards with one outline take the turn of `pack` alike.
use Rattle.std.proofs.Common.{◌≡◌, ℕ, Some, None, sym, ap, ◌∙◌}
use Rattle.cmd_board.specs.Turns.{Turn, refuses}
use Rattle.board_layout.specs.Board.{Board}
use Rattle.board_layout.specs.Lookups.{place_of}
use Rattle.jam_pack.proofs.PackedBoards.{count_alike}
use Rattle.jam_pack.specs.mail_board.Held.{AreAlike}
use Rattle.cmd_board.proofs.PlaceAlike.{place_alike}
use Rattle.cmd_board.specs.shelf_files.Halts.{done}
use Rattle.cmd_board.specs.shelf_files.declared.refusal.Refusal.TheVariants.{NoConference}
use Rattle.jam_pack.specs.slot_changes.Packed.{packed, packed_count}
use Rattle.cmd_pack.specs.Pack.{pack_at, pack_turn, packed_line}

-- a place is packed, and the reply counts so many
abbrev pub packing : ℕ → ℕ → ℕ → Board → Turn
packing conference place count b = record { board = Some (packed place b); reply = done (packed_line conference count) }

module _ (conference : ℕ) (b : Board) where
  pub turn_unplaced : place_of conference b ≡ None → (real : Board) → AreAlike real b → refuses NoConference (Some real) ≡ pack_turn conference (Some real)
  turn_unplaced none real alike = sym (ap (pack_at conference real) (place_alike real b alike conference ∙ none))

  pub turn_packing : (place count : ℕ) → place_of conference b ≡ Some place → count ≡ packed_count place b → (real : Board) → AreAlike real b → packing conference place count real ≡ pack_turn conference (Some real)
  turn_packing place count there counts real alike =
      ap (λ (n : ℕ). packing conference place n real) (counts ∙ sym (count_alike real b alike place))
      ∙ sym (ap (pack_at conference real) (place_alike real b alike conference ∙ there))
