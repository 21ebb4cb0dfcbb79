use Rattle.std.proofs.Common.{ℕ, ◌<◌, ◌^◌, List, length, drop, sym, subst, arith}
use Rattle.jam_layout.specs.Index.{index_records}
use Rattle.jam_writing.proofs.WritingLoops.{IndexSoFar, index_fits, index_from, record_added}
use Rattle.jam_writing.proofs.last.write_last_records.Goals as goal

pub loop-place-init : goal.loop-place-init
loop-place-init c =
    let slots = c.args.slots.now in
    subst (λ (text : List ℕ). IndexSoFar slots c.args.from 1024 c.args.first text (index_records c.args.first (drop c.args.from slots))) (sym c.new-text.ensures) (index_from slots c.args.from c.args.first c.requires.first)

pub add_slot-requires : goal.add_slot-requires
add_slot-requires c =
    let slots = c.args.slots.now in
    let within : c.loop-place.place < length slots = omega (arith, c.len-place-end.ensures.count, c.loop-place-test.true) in
    index_fits slots c.loop-place.place 1024 c.loop-place.at (2 ^ 31) c.loop-place.text (index_records c.args.first (drop c.args.from slots)) c.at.result.now within c.at.ensures c.requires.small c.loop-place.invariant

pub loop-place-preserved : goal.loop-place-preserved
loop-place-preserved c =
    let slots = c.args.slots.now in
    let within : c.loop-place.place < length slots = omega (arith, c.len-place-end.ensures.count, c.loop-place-test.true) in
    record_added slots c.loop-place.place 1024 c.loop-place.at c.in_ok-at.at c.loop-place.text c.add_slot.new.jdx (index_records c.args.first (drop c.args.from slots)) c.at.result.now within c.at.ensures
    c.in_ok-at.ensures.text c.in_ok-at.ensures.next c.loop-place.invariant
