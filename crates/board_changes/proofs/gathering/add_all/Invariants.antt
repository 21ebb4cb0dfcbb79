use Rattle.std.proofs.Common.{◌≡◌, ◌++◌, length}
use Rattle.std.specs.Vec.Iter.{into_iter_items, into_iter_len}
use Rattle.board_changes.specs.Gathered.{Joins}
use Rattle.board_changes.proofs.gathering.add_all.Given as goal

-- the patches so far were added, and the others may be
abbrev pub invariant-loop-patch : goal.invariant-loop-patch
invariant-loop-patch l = record {
  so_far : l.intent ++ into_iter_items l.patch-iterator ≡ l.initial.intent ++ l.fn.patches;
  joins : Joins l.intent (into_iter_items l.patch-iterator);
  counted : into_iter_len l.patch-iterator ≡ length (into_iter_items l.patch-iterator);
  can_next : (goal.iterator-loop-patch).can_next l.patch-iterator;
  is_finite : (goal.iterator-loop-patch).is_finite l.patch-iterator;
}
