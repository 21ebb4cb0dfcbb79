use Rattle.std.proofs.Common.{rules, ◌≡◌, ℕ, length, sym, ap, ◌∙◌, subst, arith}
use Rattle.std.proofs.lemmas.List.Elements.{All-tail}
use Rattle.std.specs.List.{fold}
use Rattle.std.specs.Prelude.{[]}
use Rattle.std.specs.Vec.Iter.{into_iter_items}
use Rattle.board_layout.specs.Board.{Board}
use Rattle.jam_adopt.specs.declared.found.Found.{Found}
use Rattle.cmd_adopt.proofs.StepLaws.{all_left, moved_on}
use Rattle.cmd_adopt.specs.Adopted.{adopted_next}
use Rattle.cmd_adopt.specs.Adopting.{AreRight, IsRight}
use Rattle.cmd_adopt.proofs.adopted.adopted_of.Goals as goal

pub loop-found-init : goal.loop-found-init
loop-found-init c =
    let conference : ℕ = c.args.target.conference in
    let place : ℕ = c.args.target.place in
    let b : Board = c.args.board.now in
    let items : into_iter_items c.into_iter-found-iterator.result ≡ c.args.records = c.into_iter-found-iterator.ensures.into_iter_gives.0 ∙ c.into_vec-found-items.ensures in
    let fresh = c.in_ok-adopted.ensures conference place in
    record {
      so_far = all_left conference place b (c.in_ok-adopted.adopted.lines, c.in_ok-adopted.adopted.tally.posts) c.args.records (into_iter_items c.into_iter-found-iterator.result) fresh.so_far items;
      tally = fresh.tally;
      right = subst AreRight (sym items) c.requires.right;
      counted = search rules;
      can_next = tt;
      is_finite = tt;
    }

pub loop-found-preserved : goal.loop-found-preserved
loop-found-preserved c =
    let conference : ℕ = c.args.target.conference in
    let place : ℕ = c.args.target.place in
    let b : Board = c.args.board.now in
    let v = c.loop-found.invariant in
    let steps = c.in-Some.ensures.steps in
    record {
      so_far = moved_on conference place b (c.loop-found.adopted.lines, c.loop-found.adopted.tally.posts) (c.add_next.new.self.lines, c.add_next.new.self.tally.posts) (fold (adopted_next conference place b) ([], []) c.args.records)
          (into_iter_items c.loop-found.found-iterator) (into_iter_items c.next.new.self) c.in-Some.found steps.0 c.in_ok-add_next.ensures.step v.so_far;
      tally = c.in_ok-add_next.ensures.tally;
      right = All-tail (λ (found : Found). IsRight found.verdict) c.in-Some.found (into_iter_items c.next.new.self) (subst AreRight steps.0 v.right);
      counted = omega (arith, steps.1, v.counted, ap length steps.0);
      can_next = tt;
      is_finite = tt;
    }
