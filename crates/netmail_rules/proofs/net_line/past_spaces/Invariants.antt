use Rattle.std.proofs.Common.{◌≡◌, length}
use Rattle.setup_file.specs.Words.{past_spaces}
use Rattle.netmail_rules.proofs.net_line.past_spaces.Given as goal

abbrev pub invariant-loop-rest : goal.invariant-loop-rest
invariant-loop-rest l = past_spaces l.rest ≡ past_spaces l.text

abbrev pub decreases-loop-rest : goal.decreases-loop-rest
decreases-loop-rest l = length l.rest
