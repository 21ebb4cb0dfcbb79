use Rattle.std.proofs.Common.{◌≡◌, None, replicate}
use Rattle.cmd_toss.proofs.seen.Seen.new.Given as goal

-- no set so far
abbrev pub invariant-loop : goal.invariant-loop
invariant-loop l = l.sets.items ≡ replicate l.counter None
