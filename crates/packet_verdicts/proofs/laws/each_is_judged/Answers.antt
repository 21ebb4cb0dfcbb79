use Rattle.packet_verdicts.proofs.Counting.{all_counted, all_told}
use Rattle.packet_verdicts.proofs.laws.each_is_judged.Goals as goal

pub returns-clause-outcomes : goal.returns-clause-outcomes
returns-clause-outcomes c = all_told

pub returns-clause-counts : goal.returns-clause-counts
returns-clause-counts c = all_counted
