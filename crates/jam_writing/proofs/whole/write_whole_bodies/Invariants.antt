use Rattle.std.proofs.Common.{◌≡◌, take}
use Rattle.std.specs.List.{flat_map}
use Rattle.jam_writing.specs.Pieces.{body_piece}
use Rattle.jam_writing.proofs.whole.write_whole_bodies.Given as goal

-- the bodies so far
abbrev pub invariant-loop-slot : goal.invariant-loop-slot
invariant-loop-slot l = l.jdt ≡ flat_map body_piece (take l.slot-index l.slots)
