use Rattle.jam_layout.proofs.BodyLoop.{LengthsSoFar}
use Rattle.jam_layout.proofs.bodies.lengths_of.Given as goal

-- the bodies so far have these lengths, and with those that are still read they are those of the file
abbrev pub invariant-loop-i : goal.invariant-loop-i
invariant-loop-i l = LengthsSoFar l.place l.i l.entries l.bytes l.rest l.lengths
