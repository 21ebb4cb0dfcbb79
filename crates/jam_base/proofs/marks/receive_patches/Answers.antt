use Rattle.std.proofs.Common.{◌+◌, ◌<◌, ◌^◌, List, length, ap, arith}
use Rattle.std.specs.Prelude.{sum_by}
use Rattle.jam_records.specs.declared.message.Slot.{Slot}
use Rattle.jam_writing.specs.jam_layout.Sizes.{slot_header}
use Rattle.jam_writing.proofs.WritingLoops.{header_small}
use Rattle.jam_base.proofs.DueRange.{marks_start, marks_stop}
use Rattle.jam_base.proofs.MarkLoop.{mark_fits, marks_more}
use Rattle.jam_base.proofs.marks.receive_patches.Goals as goal

pub loop-index-init : goal.loop-index-init
loop-index-init c = marks_start c.args.kind c.args.place c.args.name.now c.args.receipt c.args.slots.now c.start-first.result c.len-count.result c.header_place-at.result c.new-patches.result c.start-first.ensures c.header_place-at.ensures.place c.new-patches.ensures

pub header_length-at-requires : goal.header_length-at-requires
header_length-at-requires c =
    let slots : List Slot = c.args.slots.now in
    let within : c.loop-index.index < length slots = omega (arith, c.len-count.ensures.count, c.end-last.ensures) in
    let small : sum_by slot_header slots < 2 ^ 31 = omega (arith, c.header_place-at.ensures.small) in
    header_small slots c.loop-index.index (2 ^ 31) c.at-slot.result.now within c.at-slot.ensures small

pub overflow_add-at : goal.overflow_add-at
overflow_add-at c =
    let slots : List Slot = c.args.slots.now in
    let within : c.loop-index.index < length slots = omega (arith, c.len-count.ensures.count, c.end-last.ensures) in
    let fits = mark_fits c.args.kind c.args.place c.args.name.now c.args.receipt slots c.loop-index.index c.loop-index.at (2 ^ 31) c.loop-index.patches c.at-slot.result.now within c.at-slot.ensures c.header_place-at.ensures.small c.loop-index.invariant in
    omega (arith, fits, c.header_length-at.ensures)

pub loop-index-preserved : goal.loop-index-preserved
loop-index-preserved c =
    let slots : List Slot = c.args.slots.now in
    let within : c.loop-index.index < length slots = omega (arith, c.len-count.ensures.count, c.end-last.ensures) in
    marks_more c.args.kind c.args.place c.args.name.now c.args.receipt slots c.loop-index.index c.loop-index.at (c.loop-index.at + c.header_length-at.result) c.loop-index.patches c.add_receipt.new.patches c.at-slot.result.now within c.at-slot.ensures
    c.in_ok-add_receipt.ensures (ap (λ n. c.loop-index.at + n) c.header_length-at.ensures) c.loop-index.invariant

pub returns : goal.returns
returns c =
    marks_stop c.args.kind c.args.place c.args.name.now c.args.receipt c.args.slots.now c.loop-index.index c.end-last.result c.len-count.result c.loop-index.at c.loop-index.patches c.end-last.ensures c.len-count.ensures.count c.loop-index-test.false c.loop-index.invariant
