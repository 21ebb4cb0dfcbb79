use Rattle.std.proofs.Common.{◌≡◌, length}
use Rattle.setup_file.specs.Rising.{rise_above}
use Rattle.setup_file.proofs.zones.rise_above.Given as goal

-- what is left decides
abbrev pub invariant-loop-rest : goal.invariant-loop-rest
invariant-loop-rest l = rise_above l.low l.numbers ≡ rise_above l.last l.rest

abbrev pub decreases-loop-rest : goal.decreases-loop-rest
decreases-loop-rest l = length l.rest
