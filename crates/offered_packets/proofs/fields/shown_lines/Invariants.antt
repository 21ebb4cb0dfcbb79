use Rattle.std.proofs.Common.{◌≡◌, ◌++◌, length}
use Rattle.offered_packets.specs.Shown.{shown_lines}
use Rattle.offered_packets.proofs.fields.shown_lines.Given as goal

-- the lines so far, and those of what is left
abbrev pub invariant-loop-line : goal.invariant-loop-line
invariant-loop-line l = l.lines ++ shown_lines l.left ≡ shown_lines l.body

abbrev pub decreases-loop-line : goal.decreases-loop-line
decreases-loop-line l = length l.left
