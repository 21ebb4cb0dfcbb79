use Rattle.std.proofs.Common.{◌≡◌, ◌++◌, length}
use Rattle.std.specs.Vec.Iter.{into_iter_items, into_iter_len}
use Rattle.jam_layout.specs.Bare.{filled_slots}
use Rattle.shared_slots.proofs.slots.SharedSlots.from_bare.Given as goal

-- the slots so far were taken, and the others will be, with the lengths that are left
abbrev pub invariant-loop-slot : goal.invariant-loop-slot
invariant-loop-slot l = record {
  so_far : l.shared ++ filled_slots l.rest (into_iter_items l.slot-iterator) ≡ filled_slots l.fn.lengths l.fn.slots;
  counted : into_iter_len l.slot-iterator ≡ length (into_iter_items l.slot-iterator);
  can_next : (goal.iterator-loop-slot).can_next l.slot-iterator;
  is_finite : (goal.iterator-loop-slot).is_finite l.slot-iterator;
}
