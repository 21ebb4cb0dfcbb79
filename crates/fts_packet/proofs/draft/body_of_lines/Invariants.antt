use Rattle.std.proofs.Common.{◌≡◌, take}
use Rattle.fts_packet.specs.Lines.{body_of_lines}
use Rattle.fts_packet.proofs.draft.body_of_lines.Given as goal

-- the lines so far were added
abbrev pub invariant-loop-line : goal.invariant-loop-line
invariant-loop-line l = l.body ≡ body_of_lines (take l.line-index l.lines)
