use Rattle.std.proofs.Common.{sym, subst}
use Rattle.jam_threads.specs.Threading.{AreThreads}
use Rattle.jam_threads.specs.declared.threads.Threads.{Threads}
use Rattle.jam_base.proofs.base.Base.threaded.Goals as goal

pub add_messages-requires-clause-threads : goal.add_messages-requires-clause-threads
add_messages-requires-clause-threads c =
    c.in_ok-threads.ensures c.self.inside.slots (subst (λ (t : Threads). AreThreads c.self.inside.slots t) (sym c.get.ensures) c.self.invariant.2)
