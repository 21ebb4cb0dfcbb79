use Rattle.rep_packet.proofs.Once.{fault_unique, no_fault}
use Rattle.rep_packet.proofs.laws.one_fault.Goals as goal

pub returns : goal.returns
returns c = record { one = fault_unique; none = no_fault }
