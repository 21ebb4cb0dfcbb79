use Rattle.std.proofs.Common.{◌≡◌, ◌++◌, length}
use Rattle.fts_packet.specs.Text.{text_lines}
use Rattle.fts_packet.proofs.text.lines_of.Given as goal

-- the lines so far, and those of what is left
abbrev pub invariant-loop-line : goal.invariant-loop-line
invariant-loop-line l = text_lines l.text ≡ l.lines ++ text_lines l.rest

abbrev pub decreases-loop-line : goal.decreases-loop-line
decreases-loop-line l = length l.rest
