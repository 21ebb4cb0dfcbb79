use Rattle.std.proofs.Common.{◌≡◌, ◌∙◌, Bool, true, false, List, refl, sym}
use Rattle.jam_records.specs.declared.message.Slot.{Slot}
use Rattle.jam_base.specs.Contents.{Contents, receipt_to, with_acknowledged, with_pointer}
use Rattle.jam_base.specs.Slots.{any_due}
use Rattle.jam_base.proofs.OutlineChanges.{acknowledged_each}
use Rattle.jam_base.proofs.ReadingLaws.{is_due_to, none_due}
use Rattle.jam_base.proofs.base.Base.acknowledged.Goals as goal

pub marked_read-requires-clause-due : goal.marked_read-requires-clause-due
marked_read-requires-clause-due c =
    is_due_to c.args.self.now c.args.user c.args.name.now c.args.upto c.args.now c.receipt_to-receipt.result c.slots.result.now c.any_due.result true c.receipt_to-receipt.ensures c.slots.ensures.same c.any_due.ensures c.if-not-any_due.false

pub returns-clause-each : goal.returns-clause-each
returns-clause-each c =
    let base : Contents = c.args.self.now in
    acknowledged_each base (with_acknowledged c.args.user c.args.name.now c.args.upto c.args.now base) c.marked_read.result c.marked_read.ensures.base c.marked_read.ensures.files c.marked_read.ensures.bodies c.args.user c.args.name.now c.args.upto c.args.now refl

pub returns-then-not-any_due-clause-each : goal.returns-then-not-any_due-clause-each
returns-then-not-any_due-clause-each c =
    let base : Contents = c.args.self.now in
    let none : any_due c.args.name.now (receipt_to c.args.user c.args.upto c.args.now base) 1 base.conference.slots ≡ false =
    is_due_to base c.args.user c.args.name.now c.args.upto c.args.now c.receipt_to-receipt.result c.slots.result.now c.any_due.result false c.receipt_to-receipt.ensures c.slots.ensures.same c.any_due.ensures c.if-not-any_due.true in
    acknowledged_each base (with_pointer c.args.user c.args.upto base) c.pointed.result c.pointed.ensures.base c.pointed.ensures.files c.pointed.ensures.bodies c.args.user c.args.name.now c.args.upto c.args.now (sym (none_due base c.args.user c.args.name.now c.args.upto c.args.now none))
