use Rattle.qwk_blocks.proofs.OneFault.{fault_unique, no_fault}
use Rattle.qwk_blocks.proofs.laws.one_fault.Goals as goal

pub returns : goal.returns
returns c = record { one = fault_unique; none = no_fault }
