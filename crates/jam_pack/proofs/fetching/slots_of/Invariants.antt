use Rattle.std.proofs.Common.{◌≡◌, map, take}
use Rattle.std.specs.Prelude.{All, IsTrue}
use Rattle.board_layout.specs.Board.{Board}
use Rattle.board_layout.specs.Outlines.{HasBody}
use Rattle.door_outside.specs.Disk.{Unchanged}
use Rattle.jam_layout.specs.Outlines.{slot_outline}
use Rattle.mail_board.specs.Held.{Holds, RestsOn}
use Rattle.board_layout.specs.Lookups.{slots_in}
use Rattle.slot_changes.specs.Packed.{slots_packed}
use Rattle.jam_pack.proofs.fetching.slots_of.Given as goal

-- the slots so far as the pack leaves those of the board that the host holds, of which nothing has changed
abbrev pub invariant-loop-before : goal.invariant-loop-before
invariant-loop-before g l = record {
  slots : IsTrue g.H.Host.tells → (b : Board) → Holds b (g.H.Host.disk l.fn.host) → l.slots ≡ slots_packed (take l.before (slots_in b l.place));
  outline : map slot_outline l.slots ≡ map slot_outline (slots_packed (take l.before (slots_in l.board.board l.place)));
  lines : All HasBody l.slots;
  unchanged : IsTrue g.H.Host.tells → Unchanged (g.H.Host.disk l.fn.host) (g.H.Host.disk l.host);
  rests : IsTrue g.H.Host.tells → RestsOn l.board.board (g.H.Host.disk l.host);
  voice : g.H.Host.voice_faults l.host ≡ g.H.Host.voice_faults l.fn.host;
  cause : g.H.Host.disk_faults l.host ≡ g.H.Host.disk_faults l.fn.host;
}
