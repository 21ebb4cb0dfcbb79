use Rattle.std.proofs.Common.{◌≡◌, IsTrue}
use Rattle.cmd_exchange.proofs.OutcomeLines.{LinesGathered}
use Rattle.cmd_exchange.proofs.saying.add_outcomes.Given as goal

abbrev pub invariant-loop-index : goal.invariant-loop-index
invariant-loop-index g l = record {
  gathered : IsTrue g.H.Host.tells → LinesGathered l.fn.outcomes l.index l.fn.gathered l.gathered (g.H.Host.disk l.fn.host) (g.H.Host.disk l.host);
  voice : g.H.Host.voice_faults l.host ≡ g.H.Host.voice_faults l.fn.host;
  disk : g.H.Host.disk_faults l.host ≡ g.H.Host.disk_faults l.fn.host;
}
