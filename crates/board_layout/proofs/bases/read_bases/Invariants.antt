use Rattle.std.proofs.Common.{◌≡◌, false, drop}
use Rattle.std.specs.Prelude.{All, IsTrue}
use Rattle.door_outside.specs.Disk.{Unchanged}
use Rattle.jam_base.specs.Outlined.{outlined}
use Rattle.board_layout.proofs.ReadingBases.{BasesRead, WholesRead}
use Rattle.board_layout.proofs.bases.read_bases.Given as goal

abbrev pub invariant-loop-place : goal.invariant-loop-place
invariant-loop-place g l = record {
  so_far : BasesRead false l.ledger l.place (drop l.place l.ledger.setup.conferences) (g.H.Host.disk l.fn.host).files l.bases;
  outlines : All (λ base. outlined base ≡ base) l.bases;
  wholes : IsTrue g.H.Host.tells → WholesRead l.ledger l.place (drop l.place l.ledger.setup.conferences) (g.H.Host.disk l.fn.host).files l.bases;
  unchanged : IsTrue g.H.Host.tells → Unchanged (g.H.Host.disk l.fn.host) (g.H.Host.disk l.host);
  voice : g.H.Host.voice_faults l.host ≡ g.H.Host.voice_faults l.fn.host;
  cause : g.H.Host.disk_faults l.host ≡ g.H.Host.disk_faults l.fn.host;
}
