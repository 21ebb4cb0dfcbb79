use Rattle.std.proofs.Common.{ap, arith, length}
use Rattle.std.specs.Vec.Iter.{into_iter_items}
use Rattle.offline_writer.proofs.Places.{placed_on}
use Rattle.offline_writer.proofs.placing.placed_drafts.Goals as goal

pub loop-draft-preserved : goal.loop-draft-preserved
loop-draft-preserved c =
    let v = c.loop-draft.invariant in
    let steps = c.in-Some.ensures.steps in
    record {
      so_far =
          placed_on c.loop-draft.made.items c.push.new.self.items (into_iter_items c.loop-draft.draft-iterator) (into_iter_items c.next.new.self) _ c.loop-draft.number c.saturating_add-number.result
          c.in-Some.draft c.in_ok-message.message steps.0 c.in_ok-push.ensures.items c.in_ok-message.ensures (omega (arith, c.saturating_add-number.ensures)) v.so_far;
      counted = omega (arith, steps.1, v.counted, ap length steps.0);
      can_next = tt;
      is_finite = tt;
    }
