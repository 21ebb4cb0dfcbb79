use Rattle.std.proofs.Common.{◌<◌, List, length, arith}
use Rattle.jam_records.specs.declared.message.Slot.{Slot}
use Rattle.mail_board.proofs.BodyLaws.{held_few, sum_next, sum_within}
use Rattle.mail_board.specs.Bodies.{one_held}
use Rattle.mail_board.proofs.bodies.record_number.Goals as goal

pub overflow_add-count : goal.overflow_add-count
overflow_add-count c =
    let slots : List Slot = c.args.base.now.conference.slots in
    let inside : c.loop-before.before < length slots = omega (arith, c.requires.within) in
    omega (arith, sum_within one_held slots c.loop-before.before inside, held_few slots, c.requires.few, c.loop-before.invariant, c.held_count-count.ensures)

pub loop-before-preserved : goal.loop-before-preserved
loop-before-preserved c =
    let slots : List Slot = c.args.base.now.conference.slots in
    let inside : c.loop-before.before < length slots = omega (arith, c.requires.within) in
    omega (arith, sum_next one_held slots c.loop-before.before inside, c.loop-before.invariant, c.held_count-count.ensures)
