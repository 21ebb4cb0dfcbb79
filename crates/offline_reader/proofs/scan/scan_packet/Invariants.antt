use Rattle.std.proofs.Common.{◌≡◌, ◌+◌, ◌≤◌, IsTrue, length}
use Rattle.door_outside.specs.Shelf.{held}
use Rattle.offline_reader.proofs.Scanning.{FedUpto}
use Rattle.offline_reader.proofs.scan.scan_packet.Given as goal

-- the file was fed up to a place
abbrev pub invariant-loop-room : goal.invariant-loop-room
invariant-loop-room g l = record {
  left : l.allowance.taken + l.allowance.left ≡ l.max + 1;
  room : length l.room ≡ 4096;
  taken : l.reader.taken ≤ l.allowance.taken;
  fed : IsTrue g.S.Shelf.tells → FedUpto (held (g.S.Shelf.files l.fn.shelf) l.name) l.allowance.taken l.reader;
  unchanged : IsTrue g.S.Shelf.tells → g.S.Shelf.files l.shelf ≡ g.S.Shelf.files l.fn.shelf;
  faults : g.S.Shelf.faults l.shelf ≡ g.S.Shelf.faults l.fn.shelf;
}

abbrev pub decreases-loop-room : goal.decreases-loop-room
decreases-loop-room g l = l.allowance.left
