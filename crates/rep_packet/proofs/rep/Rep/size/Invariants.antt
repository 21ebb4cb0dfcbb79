use Rattle.std.proofs.Common.{◌≡◌, ◌-◌, ◌^◌, ◌++◌, length, min, take}
use Rattle.std.specs.List.{flat_map}
use Rattle.qwk_blocks.specs.Written.{padded, message_text}
use Rattle.rep_packet.proofs.rep.Rep.size.Given as goal

abbrev pub invariant-loop-message : goal.invariant-loop-message
invariant-loop-message l = record {
  all : l.message-items ≡ l.self.messages;
  size : l.size ≡ min (length (padded 128 l.self.bbsid ++ flat_map message_text (take l.message-index l.message-items))) (2 ^ 64 - 1);
}
