use Rattle.std.proofs.Common.{◌<◌, length, arith}
use Rattle.jam_base.proofs.DueRange.{received_start, received_stop}
use Rattle.jam_base.proofs.ReceivedLoop.{received_count, received_more}
use Rattle.jam_base.proofs.receipt.slots_received.Goals as goal

pub loop-place-init : goal.loop-place-init
loop-place-init c = received_start c.args.name.now c.args.receipt c.args.slots.now c.in_ok-new.new c.start-first.result c.len-count.result c.start-first.ensures c.in_ok-new.ensures

pub received_at-requires-clause-place : goal.received_at-requires-clause-place
received_at-requires-clause-place c =
    let within : c.loop-place.place < length c.args.slots.now = omega (arith, c.len-count.ensures.count, c.end-last.ensures) in
    omega (arith, within, received_count c.args.name.now c.args.receipt c.args.slots.now c.loop-place.place c.loop-place.new within c.loop-place.invariant)

pub received_at-requires-clause-few : goal.received_at-requires-clause-few
received_at-requires-clause-few c =
    let within : c.loop-place.place < length c.args.slots.now = omega (arith, c.len-count.ensures.count, c.end-last.ensures) in
    omega (arith, c.len-count.ensures.few, received_count c.args.name.now c.args.receipt c.args.slots.now c.loop-place.place c.loop-place.new within c.loop-place.invariant)

pub loop-place-preserved : goal.loop-place-preserved
loop-place-preserved c =
    let within : c.loop-place.place < length c.args.slots.now = omega (arith, c.len-count.ensures.count, c.end-last.ensures) in
    received_more c.args.name.now c.args.receipt c.args.slots.now c.loop-place.place c.loop-place.new c.in_ok-new-2.new within c.in_ok-new-2.ensures c.loop-place.invariant

pub returns : goal.returns
returns c =
    received_stop c.args.name.now c.args.receipt c.args.slots.now c.loop-place.new c.loop-place.place c.end-last.result c.len-count.result c.end-last.ensures c.len-count.ensures.count c.loop-place-test.false c.loop-place.invariant
