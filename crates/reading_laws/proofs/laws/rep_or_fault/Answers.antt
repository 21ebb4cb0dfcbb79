use Rattle.reading_laws.proofs.Packets.{rep_or_fault}
use Rattle.reading_laws.proofs.laws.rep_or_fault.Goals as goal

pub returns : goal.returns
returns c = rep_or_fault
