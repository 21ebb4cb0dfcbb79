use Rattle.std.proofs.Common.{◌≡◌, ◌++◌, take}
use Rattle.qwk_blocks.specs.Text.{joined_lines}
use Rattle.qwk_blocks.proofs.write.add_lines.Given as goal

abbrev pub invariant-loop-line : goal.invariant-loop-line
invariant-loop-line l = record {
  all : l.line-items ≡ l.lines;
  text : l.out ≡ l.fn.out ++ joined_lines (take l.line-index l.line-items);
}
