use Rattle.std.proofs.Common.{◌≡◌, ◌++◌, replicate}
use Rattle.qwk_blocks.proofs.write.add_spaces.Given as goal

-- the spaces so far, and those that are left
abbrev pub invariant-loop-left : goal.invariant-loop-left
invariant-loop-left l = l.out ++ replicate l.left 32 ≡ l.fn.out ++ replicate l.count 32

abbrev pub decreases-loop-left : goal.decreases-loop-left
decreases-loop-left l = l.left
