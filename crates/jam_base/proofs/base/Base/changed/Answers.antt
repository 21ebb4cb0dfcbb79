use Rattle.std.proofs.Common.{sym, subst}
use Rattle.jam_threads.specs.Threading.{AreThreads}
use Rattle.jam_threads.specs.declared.threads.Threads.{Threads}
use Rattle.jam_base.specs.Contents.{Contents}
use Rattle.jam_base.proofs.base.Base.changed.Goals as goal

pub with_threads-requires-clause-threads : goal.with_threads-requires-clause-threads
with_threads-requires-clause-threads c =
    c.requires.threads c.in_ok-threads.threads
    (subst (λ (k : Contents). AreThreads k.conference.slots c.in_ok-threads.threads) c.self.view_is (subst (λ (t : Threads). AreThreads c.self.inside.slots t) (sym c.in_ok-threads.ensures) c.self.invariant.2))
