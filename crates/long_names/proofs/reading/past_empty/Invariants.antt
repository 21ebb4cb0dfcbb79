use Rattle.std.proofs.Common.{◌≡◌, length}
use Rattle.long_names.specs.Plain.{past_empty}
use Rattle.long_names.proofs.reading.past_empty.Given as goal

-- the same lines are left behind the empty ones
abbrev pub invariant-loop-rest : goal.invariant-loop-rest
invariant-loop-rest l = past_empty l.rest ≡ past_empty l.lines

abbrev pub decreases-loop-rest : goal.decreases-loop-rest
decreases-loop-rest l = length l.rest
