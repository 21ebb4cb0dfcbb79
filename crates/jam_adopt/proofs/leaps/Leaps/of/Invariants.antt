use Rattle.std.proofs.Common.{◌≡◌, length}
use Rattle.jam_adopt.specs.Leaps.{AreLeaps}
use Rattle.jam_adopt.proofs.leaps.Leaps.of.Given as goal

-- the leaps so far are those from the last places, and there is one for each of these
abbrev pub invariant-loop-behind : goal.invariant-loop-behind
invariant-loop-behind l = record {
  each : AreLeaps l.jhr l.leaps.from_end.items;
  count : length l.leaps.from_end.items ≡ l.behind;
}
