use Rattle.std.proofs.Common.{◌≡◌, ◌++◌, length}
use Rattle.offline_writer.specs.Drafts.{stored_lines}
use Rattle.offline_writer.proofs.stored_text.stored_lines.Given as goal

-- the lines of the rest come behind those that were taken
abbrev pub invariant-loop-line : goal.invariant-loop-line
invariant-loop-line l = l.lines ++ stored_lines l.rest ≡ stored_lines l.body

abbrev pub decreases-loop-line : goal.decreases-loop-line
decreases-loop-line l = length l.rest
