use Rattle.std.proofs.Common.{◌-◌, ◌≤◌}
use Rattle.jam_adopt.specs.Leaps.{PassesFields}
use Rattle.jam_adopt.proofs.leaps.Leaps.stop.Given as goal

-- what was passed over is whole subfields, none of an id of these bits
abbrev pub invariant-loop-at : goal.invariant-loop-at
invariant-loop-at l = record {
  passed : PassesFields l.jhr l.bits l.from l.at;
  within : l.at ≤ l.to;
}

abbrev pub decreases-loop-at : goal.decreases-loop-at
decreases-loop-at l = l.to - l.at
