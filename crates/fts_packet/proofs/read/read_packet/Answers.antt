use Rattle.fts_packet.proofs.Once.{only_ok, is_fault, only_fault}
use Rattle.fts_packet.proofs.read.read_packet.Goals as goal

pub returns-clause-only_ok : goal.returns-clause-only_ok
returns-clause-only_ok c = only_ok c.args.bytes.now c.packet_in.result c.packet_in.ensures

pub returns-clause-fault : goal.returns-clause-fault
returns-clause-fault c = is_fault c.args.bytes.now c.packet_in.result c.packet_in.ensures

pub returns-clause-only_fault : goal.returns-clause-only_fault
returns-clause-only_fault c = only_fault c.args.bytes.now c.packet_in.result c.packet_in.ensures
