use Rattle.std.proofs.Common.{◌≡◌, length}
use Rattle.board_layout.specs.Renewed.{contents_of}
use Rattle.post_changes.specs.Posted.{spread}
use Rattle.cmd_messages.proofs.SlotCounts.{Refuse}
use Rattle.cmd_messages.specs.Sample.{slot_counts}
use Rattle.cmd_messages.proofs.sampling.slots_refusal.Given as goal

-- no conference so far has too many slots
abbrev pub invariant-loop-place : goal.invariant-loop-place
invariant-loop-place l = record {
  left : Refuse (slot_counts (spread l.sampling.posts l.board)) l.place;
  all : l.base-items ≡ contents_of l.board;
  end : l.place-end ≡ length (contents_of l.board);
}
