use Rattle.std.proofs.Common.{◌≡◌, ◌+◌, ◌≤◌, drop, min}
use Rattle.std.specs.Prelude.{sum_by}
use Rattle.slot_changes.proofs.SlotBytes.{message_size}
use Rattle.slot_changes.specs.Msgids.{all_identified, generated}
use Rattle.slot_changes.proofs.size.size_with_messages.Given as goal

-- the size so far, with the messages that are left
abbrev pub invariant-loop-index : goal.invariant-loop-index
invariant-loop-index l = record {
  so_far : min (l.size + sum_by message_size (all_identified (generated l.conference l.bbsid) (l.first + l.index) (drop l.index l.message-items))) 18446744073709551615
      ≡ min (l.initial.size + sum_by message_size (all_identified (generated l.conference l.bbsid) l.first l.messages)) 18446744073709551615;
  small : l.size ≤ 18446744073709551615;
  all : l.message-items ≡ l.messages;
}
