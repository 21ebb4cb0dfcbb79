use Rattle.std.proofs.Common.{◌≡◌, ◌+◌, ◌≤◌, drop, min}
use Rattle.std.specs.Prelude.{sum_by}
use Rattle.jam_layout.specs.Sizes.{slot_size}
use Rattle.slot_changes.proofs.slots.size_with_slots.Given as goal

-- the size so far, with the slots that are left
abbrev pub invariant-loop-slot : goal.invariant-loop-slot
invariant-loop-slot l = record {
  so_far : min (l.size + sum_by slot_size (drop l.slot-index l.slot-items)) 18446744073709551615 ≡ min (l.initial.size + sum_by slot_size l.slots) 18446744073709551615;
  small : l.size ≤ 18446744073709551615;
  all : l.slot-items ≡ l.slots;
}
