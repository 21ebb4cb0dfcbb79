use Rattle.std.proofs.Common.{◌≡◌, ◌+◌, ◌*◌, ◌/◌, ◌≤◌, ◌++◌, length}
use Rattle.jam_adopt.specs.Foreign.{foreign, foreign_from}
use Rattle.jam_adopt.proofs.read.add_all.Given as goal

-- what the records so far come to, and what is left, is what all come to; each record has 8 bytes
abbrev pub invariant-loop-rest : goal.invariant-loop-rest
invariant-loop-rest l = record {
  found : l.found ++ foreign_from l.jhr l.jdt l.place (length l.rest / 8) l.rest ≡ l.fn.found ++ foreign l.jhr l.jdt l.jdx;
  places : 8 * l.place + length l.rest ≤ length l.jdx + 8;
}

abbrev pub decreases-loop-rest : goal.decreases-loop-rest
decreases-loop-rest l = length l.rest
