use Rattle.std.proofs.Common.{◌≡◌, replicate, None}
use Rattle.board_changes.proofs.base.only_in.Given as goal

-- none of the bases so far is new
abbrev pub invariant-loop-done : goal.invariant-loop-done
invariant-loop-done l = l.bases ≡ replicate l._done None
