use Rattle.std.proofs.Common.{ℕ, ◌+◌, ◌-◌, ◌≤◌, List, ◌++◌, length, take}
use Rattle.offline_reader.specs.Scan.{HasFed}
use Rattle.offline_reader.proofs.scan.feed_all.Given as goal

-- the front of the piece was fed
abbrev pub invariant-loop-at : goal.invariant-loop-at
invariant-loop-at l = record {
  within : l.at ≤ length l.piece;
  taken : l.reader.taken ≤ l.fn.reader.taken + l.at;
  fed : (stream : List ℕ) → HasFed l.fn.reader stream → HasFed l.reader (stream ++ take l.at l.piece);
}

abbrev pub decreases-loop-at : goal.decreases-loop-at
decreases-loop-at l = length l.piece - l.at
