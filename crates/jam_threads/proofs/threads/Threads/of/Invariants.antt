use Rattle.std.proofs.Common.{take}
use Rattle.jam_threads.specs.Threading.{AreThreads}
use Rattle.jam_threads.proofs.threads.Threads.of.Given as goal

-- the slots before this place were added
abbrev pub invariant-loop-place : goal.invariant-loop-place
invariant-loop-place l = AreThreads (take l.place l.slots) l.threads
