use Rattle.std.proofs.Common.{◌≡◌, ◌++◌, take}
use Rattle.offline_reader.specs.Printed.{printed}
use Rattle.offline_reader.proofs.print.add_printed.Given as goal

abbrev pub invariant-loop-b : goal.invariant-loop-b
invariant-loop-b l = l.page ≡ l.initial.page ++ printed (take l.b-index l.text)
