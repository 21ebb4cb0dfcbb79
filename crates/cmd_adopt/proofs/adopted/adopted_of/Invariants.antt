use Rattle.std.proofs.Common.{◌≡◌, [], length}
use Rattle.std.specs.List.{fold}
use Rattle.std.specs.Vec.Iter.{into_iter_items, into_iter_len}
use Rattle.mail_intake.specs.Tallies.{IsTally}
use Rattle.cmd_adopt.specs.Adopted.{adopted_next}
use Rattle.cmd_adopt.specs.Adopting.{AreRight}
use Rattle.cmd_adopt.proofs.adopted.adopted_of.Given as goal

-- what became of the records so far, and becomes of the others, is what becomes of all
abbrev pub invariant-loop-found : goal.invariant-loop-found
invariant-loop-found l = record {
  so_far : fold (adopted_next l.target.conference l.target.place l.board) (l.adopted.lines, l.adopted.tally.posts) (into_iter_items l.found-iterator)
      ≡ fold (adopted_next l.target.conference l.target.place l.board) ([], []) l.fn.records;
  tally : IsTally l.board l.adopted.tally;
  right : AreRight (into_iter_items l.found-iterator);
  counted : into_iter_len l.found-iterator ≡ length (into_iter_items l.found-iterator);
  can_next : (goal.iterator-loop-found).can_next l.found-iterator;
  is_finite : (goal.iterator-loop-found).is_finite l.found-iterator;
}
