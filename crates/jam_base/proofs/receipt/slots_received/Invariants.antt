use Rattle.jam_base.proofs.ReceivedLoop.{ReceivedSoFar}
use Rattle.jam_base.proofs.receipt.slots_received.Given as goal

abbrev pub invariant-loop-place : goal.invariant-loop-place
invariant-loop-place l = ReceivedSoFar l.name l.receipt l.slots l.place l.new
