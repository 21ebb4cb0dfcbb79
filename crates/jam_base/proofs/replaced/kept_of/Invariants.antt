use Rattle.std.proofs.Common.{◌≡◌, map, take}
use Rattle.jam_writing.specs.jam_layout.Outlines.{slot_outline}
use Rattle.jam_base.proofs.replaced.kept_of.Given as goal

-- the outlines of the slots so far
abbrev pub invariant-loop-slot : goal.invariant-loop-slot
invariant-loop-slot l = l.kept ≡ map slot_outline (take l.slot-index l.slots)
