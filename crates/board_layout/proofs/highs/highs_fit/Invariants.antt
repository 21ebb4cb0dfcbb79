use Rattle.std.proofs.Common.{◌≡◌, length, drop}
use Rattle.board_layout.specs.Board.{conferences_in}
use Rattle.board_layout.specs.Valid.{highs_fit}
use Rattle.board_layout.proofs.highs.highs_fit.Given as goal

-- the highs that are left say whether all fit
abbrev pub invariant-loop-base : goal.invariant-loop-base
invariant-loop-base l = highs_fit (conferences_in (drop (length l.yielded) l.bases)) (drop (length l.yielded) l.highs) ≡ highs_fit (conferences_in l.bases) l.highs
