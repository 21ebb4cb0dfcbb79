use Rattle.std.proofs.Common.{◌≡◌, ◌-◌, ◌^◌, length, min, take}
use Rattle.qwk_blocks.specs.Text.{joined_lines}
use Rattle.qwk_blocks.proofs.text.text_len.Given as goal

abbrev pub invariant-loop-line : goal.invariant-loop-line
invariant-loop-line l = record {
  all : l.line-items ≡ l.lines;
  len : l.len ≡ min (length (joined_lines (take l.line-index l.line-items))) (2 ^ 64 - 1);
}
