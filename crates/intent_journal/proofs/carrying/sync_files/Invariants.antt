use Rattle.std.proofs.Common.{◌≡◌, ◌-◌}
use Rattle.intent_journal.specs.Journal.{spelled}
use Rattle.intent_journal.proofs.Syncing.{Syncing}
use Rattle.intent_journal.proofs.carrying.sync_files.Given as goal

abbrev pub invariant-loop-done : goal.invariant-loop-done
invariant-loop-done g l = record {
  syncing : Syncing g.H.Host.tells (spelled l.count l.text) (l.count - l._done) l.rest l.seen.touched l.seen.replaced (g.H.Host.disk l.fn.host) (g.H.Host.disk l.host);
  voice : g.H.Host.voice_faults l.host ≡ g.H.Host.voice_faults l.fn.host;
  cause : g.H.Host.disk_faults l.host ≡ g.H.Host.disk_faults l.fn.host;
}
