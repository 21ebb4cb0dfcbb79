use Rattle.std.specs.Prelude.{Ok}
use Rattle.std.proofs.Common.{refl}
use Rattle.memory_outside.specs.declared.event.Event.TheVariants.{Sync}
use Rattle.memory_outside.proofs.Passing.{sync_passes, recorded_made}
use Rattle.memory_outside.proofs.memory_host.host_calls.MemoryHostHost.sync.Goals as goal

pub returns-clause-crash : goal.returns-clause-crash
returns-clause-crash c =
    sync_passes c.perform.result c.args.file c.args.self.now.events c.perform.new.self.events _ _
    (recorded_made c.perform.result (Ok (Sync c.args.file)) (Sync c.args.file) c.args.self.now.events c.perform.new.self.events refl c.perform.ensures.made c.perform.ensures.ok c.perform.ensures.err)
