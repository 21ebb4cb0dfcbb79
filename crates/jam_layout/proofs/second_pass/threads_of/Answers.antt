use Rattle.std.proofs.Common.{sym, arith}
use Rattle.jam_layout.proofs.ThreadLoop.{entry_is, filled, few_filled, next_number, threaded_done, threaded_more}
use Rattle.jam_layout.proofs.second_pass.threads_of.Goals as goal

pub overflow_sub-entry : goal.overflow_sub-entry
overflow_sub-entry c =
    (next_number c.loop-entry.threads c.loop-entry.entry-index c.args.entries.now c.entry-item.result (entry_is c.args.entries.now c.loop-entry.entry-index c.entry-item.result c.loop-entry-test.true c.entry-item.is) c.loop-entry.invariant).some

pub fill-requires-clause-few : goal.fill-requires-clause-few
fill-requires-clause-few c =
    let few = (next_number c.loop-entry.threads c.loop-entry.entry-index c.args.entries.now c.entry-item.result (entry_is c.args.entries.now c.loop-entry.entry-index c.entry-item.result c.loop-entry-test.true c.entry-item.is) c.loop-entry.invariant).few in
    omega (arith, few)

pub add-requires-clause-slots : goal.add-requires-clause-slots
add-requires-clause-slots c =
    let t = c.loop-entry.invariant in
    record {
      slots = filled c.loop-entry.threads c.loop-entry.entry-index c.args.entries.now c.entry-item.result t;
      are = c.in_ok-fill.ensures.added t.slots t.are;
    }

pub add-requires-clause-few : goal.add-requires-clause-few
add-requires-clause-few c =
    let t = c.loop-entry.invariant in
    few_filled c.loop-entry.threads c.fill.new.self c.loop-entry.entry-index c.args.entries.now c.entry-item.result (entry_is c.args.entries.now c.loop-entry.entry-index c.entry-item.result c.loop-entry-test.true c.entry-item.is) t (c.in_ok-fill.ensures.added t.slots t.are)

pub loop-entry-preserved : goal.loop-entry-preserved
loop-entry-preserved c =
    let t = c.loop-entry.invariant in
    threaded_more c.loop-entry.threads c.fill.new.self c.add.new.self c.loop-entry.entry-index c.args.entries.now c.entry-item.result (entry_is c.args.entries.now c.loop-entry.entry-index c.entry-item.result c.loop-entry-test.true c.entry-item.is) t
    (c.in_ok-add.ensures.added (filled c.loop-entry.threads c.loop-entry.entry-index c.args.entries.now c.entry-item.result t) c.entry-item.result.message (c.in_ok-fill.ensures.added t.slots t.are) (sym c.as_slice.ensures.same) (sym c.as_slice-in-loop-entry.ensures.same))

pub returns : goal.returns
returns c = threaded_done c.loop-entry.threads c.loop-entry.entry-index c.args.entries.now c.loop-entry-test.false c.loop-entry.invariant
