use Rattle.std.proofs.Common.{◌≡◌, ◌<◌, ◌+◌, IsTrue, length}
use Rattle.door_outside.specs.Shelf.{held}
use Rattle.door_outside.proofs.Fetching.{FrontOf}
use Rattle.door_outside.proofs.fetch.fetch_by.Given as goal

-- what was read so far is a front of the file
abbrev pub invariant-loop-allowance : goal.invariant-loop-allowance
invariant-loop-allowance g l = record {
  taken : l.allowance.taken ≡ length l.whole;
  left : l.allowance.taken + l.allowance.left ≡ l.max + 1;
  room : 0 < length l.room;
  front : IsTrue g.S.Shelf.tells → FrontOf (held (g.S.Shelf.files l.fn.shelf) l.name) l.whole;
  unchanged : IsTrue g.S.Shelf.tells → g.S.Shelf.files l.shelf ≡ g.S.Shelf.files l.fn.shelf;
  faults : g.S.Shelf.faults l.shelf ≡ g.S.Shelf.faults l.fn.shelf;
}

abbrev pub decreases-loop-allowance : goal.decreases-loop-allowance
decreases-loop-allowance g l = l.allowance.left
