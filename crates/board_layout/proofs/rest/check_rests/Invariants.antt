use Rattle.std.proofs.Common.{◌≡◌, ◌-◌}
use Rattle.std.specs.Prelude.{IsTrue}
use Rattle.door_outside.specs.Disk.{Unchanged}
use Rattle.board_layout.specs.Damage.{are_rest}
use Rattle.board_layout.proofs.rest.check_rests.Given as goal

-- the places that are left say whether all are empty
abbrev pub invariant-loop-place : goal.invariant-loop-place
invariant-loop-place g l = record {
  left : IsTrue g.H.Host.tells → are_rest l.place (64 - l.place) (g.H.Host.disk l.fn.host).files ≡ are_rest l.first (64 - l.first) (g.H.Host.disk l.fn.host).files;
  unchanged : IsTrue g.H.Host.tells → Unchanged (g.H.Host.disk l.fn.host) (g.H.Host.disk l.host);
  voice : g.H.Host.voice_faults l.host ≡ g.H.Host.voice_faults l.fn.host;
  cause : g.H.Host.disk_faults l.host ≡ g.H.Host.disk_faults l.fn.host;
}
