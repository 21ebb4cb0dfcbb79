use Rattle.std.proofs.Common.{◌≡◌, ◌++◌, length}
use Rattle.netmail_rules.proofs.KeptLines.{spaced}
use Rattle.netmail_rules.proofs.draft.add_line.Given as goal

-- what is left comes behind what was added
abbrev pub invariant-loop-front : goal.invariant-loop-front
invariant-loop-front l = l.body ++ spaced l.left ≡ l.fn.body ++ spaced l.line

abbrev pub decreases-loop-front : goal.decreases-loop-front
decreases-loop-front l = length l.left
