use Rattle.std.proofs.Common.{take}
use Rattle.cmd_toss.specs.Tossing.{HasSet}
use Rattle.cmd_toss.proofs.seen.msgids_of.Given as goal

-- the msgids of the slots so far
abbrev pub invariant-loop-before : goal.invariant-loop-before
invariant-loop-before l = HasSet (take l.before l.base.conference.slots) l.set
