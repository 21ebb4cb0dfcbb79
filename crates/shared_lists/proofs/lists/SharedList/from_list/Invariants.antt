use Rattle.std.proofs.Common.{◌≡◌, ◌++◌, length}
use Rattle.std.specs.Vec.Iter.{into_iter_items, into_iter_len}
use Rattle.shared_lists.proofs.lists.SharedList.from_list.Given as goal

-- the items so far were moved, and the others will be
abbrev pub invariant-loop-item : goal.invariant-loop-item
invariant-loop-item g l = record {
  so_far : l.shared ++ into_iter_items l.item-iterator ≡ l.fn.items;
  counted : into_iter_len l.item-iterator ≡ length (into_iter_items l.item-iterator);
  can_next : (goal.iterator-loop-item g).can_next l.item-iterator;
  is_finite : (goal.iterator-loop-item g).is_finite l.item-iterator;
}
