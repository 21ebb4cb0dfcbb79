use Rattle.std.proofs.Common.{◌≡◌, ◌+◌, length, take}
use Rattle.qwk_blocks.specs.Text.{joined_lines}
use Rattle.offline_writer.proofs.fitting.are_short.Given as goal

abbrev pub invariant-loop-line : goal.invariant-loop-line
invariant-loop-line l = record {
  all : l.line-items ≡ l.lines;
  left : l.left + length (joined_lines (take l.line-index l.line-items)) ≡ l.most;
}
