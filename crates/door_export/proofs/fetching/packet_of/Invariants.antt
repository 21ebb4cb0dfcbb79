use Rattle.std.proofs.Common.{◌≡◌, ◌≤◌, length, take}
use Rattle.std.specs.Prelude.{All, IsTrue}
use Rattle.board_layout.specs.Board.{Board}
use Rattle.door_outside.specs.Disk.{Unchanged}
use Rattle.mail_board.specs.Held.{Holds, RestsOn}
use Rattle.offered_packets.specs.Shown.{IsShort, shown_all}
use Rattle.door_export.proofs.fetching.packet_of.Given as goal

-- the messages so far as they are shown of the board that the host holds, of which nothing has changed
abbrev pub invariant-loop-i : goal.invariant-loop-i
invariant-loop-i g l = record {
  shown : IsTrue g.H.Host.tells → (b : Board) → Holds b (g.H.Host.disk l.fn.host) → l.packet ≡ shown_all b (take l.i l.offered);
  short : All IsShort l.packet;
  few : length l.packet ≤ l.i;
  within : l.i ≤ length l.offered;
  unchanged : IsTrue g.H.Host.tells → Unchanged (g.H.Host.disk l.fn.host) (g.H.Host.disk l.host);
  rests : IsTrue g.H.Host.tells → RestsOn l.board.board (g.H.Host.disk l.host);
  voice : g.H.Host.voice_faults l.host ≡ g.H.Host.voice_faults l.fn.host;
  cause : g.H.Host.disk_faults l.host ≡ g.H.Host.disk_faults l.fn.host;
}
