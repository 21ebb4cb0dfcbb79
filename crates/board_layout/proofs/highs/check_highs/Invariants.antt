use Rattle.std.proofs.Common.{◌≡◌, ◌+◌, drop}
use Rattle.board_layout.specs.Board.{conferences_in}
use Rattle.board_layout.specs.Damage.{highs_of}
use Rattle.board_layout.proofs.highs.check_highs.Given as goal

-- the users that are left say what all say
abbrev pub invariant-loop-i : goal.invariant-loop-i
invariant-loop-i l = highs_of (conferences_in l.bases) (l.first + l.i) (drop l.i l.users) ≡ highs_of (conferences_in l.bases) l.first l.users
