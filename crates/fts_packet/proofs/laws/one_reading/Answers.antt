use Rattle.fts_packet.proofs.Once.{packet_once}
use Rattle.fts_packet.proofs.laws.one_reading.Goals as goal

pub returns : goal.returns
returns c = packet_once
