use Rattle.std.proofs.Common.{◌≡◌, ◌-◌, ◌^◌, length, min, take}
use Rattle.qwk_blocks.specs.Text.{joined_lines}
use Rattle.rep_packet.proofs.size.lines_size.Given as goal

abbrev pub invariant-loop-line : goal.invariant-loop-line
invariant-loop-line l = record {
  all : l.line-items ≡ l.lines;
  size : l.size ≡ min (length (joined_lines (take l.line-index l.line-items))) (2 ^ 64 - 1);
}
