use Rattle.std.proofs.Common.{ap}
use Rattle.std.specs.Prelude.{reverse}
use Rattle.memory_outside.specs.MemoryHost.{Hosted}
use Rattle.memory_outside.specs.declared.event.Event.TheVariants.{Write}
use Rattle.memory_outside.proofs.Passing.{write_passes, write_torn, recorded_as}
use Rattle.memory_outside.proofs.memory_host.host_calls.MemoryHostHost.write_at.Goals as goal

pub returns-clause-torn : goal.returns-clause-torn
returns-clause-torn c =
    write_torn c.write_down-done.result c.args.file c.args.at c.args.bytes.now c.args.self.now.events (reverse c.self.inside.events.items)
    (recorded_as c.write_down-done.result (Write c.args.file c.args.at c.args.bytes.now) c.args.self.now.events c.write_down-done.new.self.events (reverse c.self.inside.events.items) (ap (λ (h : Hosted). h.events) c.self.view_is) c.write_down-done.ensures.recorded)

pub returns-clause-crash : goal.returns-clause-crash
returns-clause-crash c =
    write_passes c.write_down-done.result c.args.file c.args.at c.args.bytes.now c.args.self.now.events (reverse c.self.inside.events.items) _ _
    (recorded_as c.write_down-done.result (Write c.args.file c.args.at c.args.bytes.now) c.args.self.now.events c.write_down-done.new.self.events (reverse c.self.inside.events.items) (ap (λ (h : Hosted). h.events) c.self.view_is) c.write_down-done.ensures.recorded)
