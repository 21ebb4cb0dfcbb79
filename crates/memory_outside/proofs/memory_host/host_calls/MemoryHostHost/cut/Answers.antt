use Rattle.std.specs.Prelude.{Ok}
use Rattle.std.proofs.Common.{refl}
use Rattle.memory_outside.specs.declared.event.Event.TheVariants.{Shorten}
use Rattle.memory_outside.proofs.Passing.{cut_passes, recorded_made}
use Rattle.memory_outside.proofs.memory_host.host_calls.MemoryHostHost.cut.Goals as goal

pub returns-clause-crash : goal.returns-clause-crash
returns-clause-crash c =
    cut_passes c.perform.result c.args.file c.args.len c.args.self.now.events c.perform.new.self.events _ _
    (recorded_made c.perform.result (Ok (Shorten c.args.file c.args.len)) (Shorten c.args.file c.args.len) c.args.self.now.events c.perform.new.self.events refl c.perform.ensures.made c.perform.ensures.ok c.perform.ensures.err)
