use Rattle.memory_outside.specs.declared.event.Event.TheVariants.{Say}
use Rattle.memory_outside.proofs.Passing.{say_passes, recorded_made}
use Rattle.memory_outside.proofs.memory_host.host_calls.MemoryHostHost.say.Goals as goal

pub returns-clause-crash : goal.returns-clause-crash
returns-clause-crash c =
    say_passes c.speak.result c.args.bytes.now c.args.self.now.events c.speak.new.self.events _ _
    (recorded_made c.speak.result c.say_event-event.result (Say c.args.bytes.now) c.args.self.now.events c.speak.new.self.events c.say_event-event.ensures c.speak.ensures.made c.speak.ensures.ok c.speak.ensures.err)
