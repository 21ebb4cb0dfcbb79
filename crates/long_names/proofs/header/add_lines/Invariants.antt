use Rattle.std.proofs.Common.{◌≡◌, ◌++◌, take}
use Rattle.long_names.proofs.header.add_lines.Given as goal

abbrev pub invariant-loop-line : goal.invariant-loop-line
invariant-loop-line l = l.to ≡ l.fn.to ++ take l.line-index l.lines
