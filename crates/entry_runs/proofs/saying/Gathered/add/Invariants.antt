use Rattle.std.proofs.Common.{◌≡◌, IsTrue}
use Rattle.entry_runs.proofs.Voice.{PiecesGathered}
use Rattle.entry_runs.proofs.saying.Gathered.add.Given as goal

abbrev pub invariant-loop-piece : goal.invariant-loop-piece
invariant-loop-piece g l = record {
  gathered : IsTrue g.H.Host.tells → PiecesGathered l.pieces l.piece-index l.fn.self l.self (g.H.Host.disk l.fn.host) (g.H.Host.disk l.host);
  voice : g.H.Host.voice_faults l.host ≡ g.H.Host.voice_faults l.fn.host;
  disk : g.H.Host.disk_faults l.host ≡ g.H.Host.disk_faults l.fn.host;
}
