use Rattle.reading_laws.proofs.Type2Packets.{type2_or_fault}
use Rattle.reading_laws.proofs.laws.type2_or_fault.Goals as goal

pub returns : goal.returns
returns c = type2_or_fault
