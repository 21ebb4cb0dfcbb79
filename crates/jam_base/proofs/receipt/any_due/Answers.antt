use Rattle.std.proofs.Common.{◌∙◌, sym}
use Rattle.jam_base.proofs.DueRange.{due_start, due_stop}
use Rattle.jam_base.proofs.receipt.any_due.Goals as goal

pub loop-place-init : goal.loop-place-init
loop-place-init c = due_start c.args.name.now c.args.receipt c.args.slots.now c.start-first.result c.len-count.result c.start-first.ensures

pub returns : goal.returns
returns c =
    sym (due_stop c.args.name.now c.args.receipt c.args.slots.now c.loop-place.place c.end-last.result c.len-count.result c.end-last.ensures c.len-count.ensures.count c.loop-place-test.false) ∙ c.loop-place.invariant
