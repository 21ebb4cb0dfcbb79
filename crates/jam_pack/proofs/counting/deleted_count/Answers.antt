use Rattle.std.proofs.Common.{◌<◌, cond, List, length, ap, ◌∙◌, arith}
use Rattle.std.proofs.lemmas.List.{take_all}
use Rattle.std.proofs.lemmas.List.Sums.{count_by-le-length}
use Rattle.jam_records.specs.declared.message.Slot.{Slot}
use Rattle.mail_board.proofs.BodyLaws.{sum_next, sum_within}
use Rattle.slot_changes.specs.Packed.{deleted_count, is_deleted}
use Rattle.jam_pack.proofs.counting.deleted_count.Goals as goal

pub overflow_add-count : goal.overflow_add-count
overflow_add-count c =
    let slots : List Slot = c.args.base.now.conference.slots in
    let inside : c.loop-before.before < length slots = omega (arith, c.slot_count-before-end.ensures, c.loop-before-test.true) in
    omega (arith, sum_within (λ (s : Slot). cond (is_deleted s) 1 0) slots c.loop-before.before inside, count_by-le-length is_deleted slots, c.slot_count-before-end.ensures, c.loop-before.invariant, c.one_deleted-count.ensures)

pub loop-before-preserved : goal.loop-before-preserved
loop-before-preserved c =
    let slots : List Slot = c.args.base.now.conference.slots in
    let inside : c.loop-before.before < length slots = omega (arith, c.slot_count-before-end.ensures, c.loop-before-test.true) in
    omega (arith, sum_next (λ (s : Slot). cond (is_deleted s) 1 0) slots c.loop-before.before inside, c.loop-before.invariant, c.one_deleted-count.ensures)

pub returns : goal.returns
returns c = c.loop-before.invariant ∙ ap deleted_count (take_all c.loop-before.before c.args.base.now.conference.slots (omega (arith, c.slot_count-before-end.ensures, c.loop-before-test.false)))
