use Rattle.std.proofs.Common.{◌≡◌, ◌-◌}
use Rattle.intent_journal.specs.Journal.{spelled}
use Rattle.intent_journal.proofs.Fitting.{Fitting}
use Rattle.intent_journal.proofs.within.fits_files.Given as goal

abbrev pub invariant-loop-done : goal.invariant-loop-done
invariant-loop-done g l = record {
  fitting : Fitting g.H.Host.tells (spelled l.count l.text) (l.count - l._done) l.rest l.ends (g.H.Host.disk l.fn.host) (g.H.Host.disk l.host);
  voice : g.H.Host.voice_faults l.host ≡ g.H.Host.voice_faults l.fn.host;
  cause : g.H.Host.disk_faults l.host ≡ g.H.Host.disk_faults l.fn.host;
}
