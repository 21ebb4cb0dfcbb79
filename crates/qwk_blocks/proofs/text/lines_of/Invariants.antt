use Rattle.std.proofs.Common.{◌≡◌, ◌++◌, length}
use Rattle.std.specs.List.{All}
use Rattle.qwk_blocks.specs.Text.{joined_lines, IsLine}
use Rattle.qwk_blocks.proofs.text.lines_of.Given as goal

abbrev pub invariant-loop-line : goal.invariant-loop-line
invariant-loop-line l = record {
  whole : l.text ≡ joined_lines l.lines ++ l.rest;
  each : All IsLine l.lines;
}

abbrev pub decreases-loop-line : goal.decreases-loop-line
decreases-loop-line l = length l.rest
