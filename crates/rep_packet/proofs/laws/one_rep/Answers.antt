use Rattle.rep_packet.proofs.Once.{rep_unique}
use Rattle.rep_packet.proofs.laws.one_rep.Goals as goal

pub returns : goal.returns
returns c = rep_unique
