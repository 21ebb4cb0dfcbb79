use Rattle.std.proofs.Common.{◌≡◌, ◌+◌, ◌*◌, ◌^◌, ◌<◌, length}
use Rattle.std.specs.Prelude.{IsTrue}
use Rattle.door_outside.specs.Disk.{Unchanged}
use Rattle.door_outside.specs.File.{ledger_file}
use Rattle.board_layout.specs.Layout.{places_size}
use Rattle.board_layout.proofs.sizes.data_size.Given as goal

-- the size of the ledger and of the places so far
abbrev pub invariant-loop-place : goal.invariant-loop-place
invariant-loop-place g l = record {
  value : IsTrue g.H.Host.tells → l.size ≡ length ((g.H.Host.disk l.fn.host).files ledger_file) + places_size l.place (g.H.Host.disk l.fn.host).files;
  bound : l.size < 2 ^ 31 + l.place * 2 ^ 33;
  unchanged : IsTrue g.H.Host.tells → Unchanged (g.H.Host.disk l.fn.host) (g.H.Host.disk l.host);
  voice : g.H.Host.voice_faults l.host ≡ g.H.Host.voice_faults l.fn.host;
  cause : g.H.Host.disk_faults l.host ≡ g.H.Host.disk_faults l.fn.host;
}
