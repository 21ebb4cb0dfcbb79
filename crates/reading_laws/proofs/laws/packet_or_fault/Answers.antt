use Rattle.reading_laws.proofs.Packets.{packet_or_fault}
use Rattle.reading_laws.proofs.laws.packet_or_fault.Goals as goal

pub returns : goal.returns
returns c = packet_or_fault
