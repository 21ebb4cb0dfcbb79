use Rattle.std.proofs.Common.{◌≡◌, ◌++◌, take}
use Rattle.std.specs.Str.Lines.{lines}
use Rattle.qwk_control.specs.Line.{texts}
use Rattle.qwk_control.proofs.lines.take_lines.Given as goal

abbrev pub invariant-loop-i : goal.invariant-loop-i
invariant-loop-i l = lines l.text ≡ texts (take l.i l.taken) ++ lines l.rest
