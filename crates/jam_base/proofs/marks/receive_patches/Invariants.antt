use Rattle.jam_base.proofs.MarkLoop.{MarksSoFar}
use Rattle.jam_base.proofs.marks.receive_patches.Given as goal

abbrev pub invariant-loop-index : goal.invariant-loop-index
invariant-loop-index l = MarksSoFar l.kind l.place l.name l.receipt l.slots l.index l.at l.patches
