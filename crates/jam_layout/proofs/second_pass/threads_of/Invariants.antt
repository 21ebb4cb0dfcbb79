use Rattle.jam_layout.proofs.ThreadLoop.{Threaded}
use Rattle.jam_layout.proofs.second_pass.threads_of.Given as goal

abbrev pub invariant-loop-entry : goal.invariant-loop-entry
invariant-loop-entry l = Threaded l.threads l.entry-index l.entries
