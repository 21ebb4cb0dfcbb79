use Rattle.std.proofs.Common.{◌≡◌, ◌++◌, [], take}
use Rattle.std.specs.List.{flat_map}
use Rattle.offline_reader.specs.Printed.{printed, printed_line}
use Rattle.offline_reader.proofs.letter.add_lines.Given as goal

abbrev pub invariant-loop-line : goal.invariant-loop-line
invariant-loop-line l = l.page ≡ l.fn.page ++ flat_map (λ line. printed_line [] (printed line)) (take l.line-index l.line-items)
