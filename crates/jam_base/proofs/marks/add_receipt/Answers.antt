use Rattle.std.proofs.Common.{sym, ◌∙◌}
use Rattle.jam_threads.proofs.ChangeLemmas.{on_ok}
use Rattle.jam_base.proofs.MarkLoop.{put_when_due}
use Rattle.jam_base.proofs.marks.add_receipt.Goals as goal

pub returns : goal.returns
returns c = on_ok _ _ c.add.result (λ added.
    put_when_due c.args.kind c.args.place c.args.name.now c.args.receipt c.args.at c.args.number c.in-Held.message c.args.slot.now c.args.patches.now c.add.new.self c.in_ok-marks_patch.field-0
    c.in-Held.is (sym c.is_due.ensures ∙ c.if-not-is_due.false) c.in_ok-marks_patch.ensures added) c.add.ensures.ok
