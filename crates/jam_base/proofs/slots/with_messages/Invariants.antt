use Rattle.std.proofs.Common.{◌≡◌, length, map}
use Rattle.std.specs.Vec.Iter.{into_iter_items, into_iter_len}
use Rattle.jam_writing.specs.jam_layout.Outlines.{message_outline}
use Rattle.jam_base.specs.Slots.{slots_with_all}
use Rattle.jam_base.proofs.slots.with_messages.Given as goal

-- the outlines of the messages so far were added, and the others will be
abbrev pub invariant-loop-message : goal.invariant-loop-message
invariant-loop-message l = record {
  so_far : slots_with_all l.longer (map message_outline (into_iter_items l.message-iterator)) ≡ slots_with_all l.initial.longer (map message_outline l.fn.messages);
  counted : into_iter_len l.message-iterator ≡ length (into_iter_items l.message-iterator);
  can_next : (goal.iterator-loop-message).can_next l.message-iterator;
  is_finite : (goal.iterator-loop-message).is_finite l.message-iterator;
}
