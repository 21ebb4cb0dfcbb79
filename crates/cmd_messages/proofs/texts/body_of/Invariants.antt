use Rattle.std.proofs.Common.{◌≡◌}
use Rattle.cmd_messages.specs.Sample.{numbered_line, repeated}
use Rattle.cmd_messages.proofs.texts.body_of.Given as goal

-- so many lines so far
abbrev pub invariant-loop : goal.invariant-loop
invariant-loop l = l.body ≡ repeated (numbered_line l.seed l.number) l.counter
