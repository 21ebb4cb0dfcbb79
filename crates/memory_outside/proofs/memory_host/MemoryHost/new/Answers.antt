use Rattle.memory_outside.proofs.Choosing.{none_pending}
use Rattle.memory_outside.proofs.memory_host.MemoryHost.new.Goals as goal

pub returns-clause-pending : goal.returns-clause-pending
returns-clause-pending c = none_pending c.new-3.result.items 0 c.new-3.ensures.items
