use Rattle.std.proofs.Common.{◌≡◌, ◌++◌, length}
use Rattle.std.specs.Vec.Iter.{into_iter_items, into_iter_len}
use Rattle.offline_writer.specs.Placing.{placed_from}
use Rattle.offline_writer.proofs.placing.placed_drafts.Given as goal

-- the drafts so far have their places, and the others get those behind them
abbrev pub invariant-loop-draft : goal.invariant-loop-draft
invariant-loop-draft l = record {
  so_far : l.made.items ++ placed_from l.number (into_iter_items l.draft-iterator) ≡ placed_from l.fn.first l.fn.drafts;
  counted : into_iter_len l.draft-iterator ≡ length (into_iter_items l.draft-iterator);
  can_next : (goal.iterator-loop-draft).can_next l.draft-iterator;
  is_finite : (goal.iterator-loop-draft).is_finite l.draft-iterator;
}
