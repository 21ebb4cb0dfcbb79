use Rattle.std.proofs.Common.{◌≡◌, take}
use Rattle.offline_reader.specs.Printed.{printed}
use Rattle.offline_reader.proofs.print.is_printed.Given as goal

-- what was looked at is printed as it is
abbrev pub invariant-loop-b : goal.invariant-loop-b
invariant-loop-b l = printed (take l.b-index l.text) ≡ take l.b-index l.text
