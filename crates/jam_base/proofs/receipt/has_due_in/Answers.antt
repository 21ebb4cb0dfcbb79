use Rattle.std.proofs.Common.{◌∙◌, ◌+◌, get_or, ap}
use Rattle.jam_records.specs.declared.message.Slot.TheVariants.{Gone}
use Rattle.jam_writing.proofs.shared_slots.BareSlots.{bare_is}
use Rattle.jam_base.specs.Slots.{has_due}
use Rattle.jam_base.proofs.BareLookups.{due_bare}
use Rattle.jam_base.proofs.receipt.has_due_in.Goals as goal

pub returns : goal.returns
returns c =
    c.has_due.ensures
    ∙ (ap (has_due c.args.name.now c.args.receipt (c.args.place + 1)) (bare_is c.args.slots.now c.args.place c.at.result.now c.requires.place c.at.ensures)
    ∙ due_bare c.args.name.now c.args.receipt (c.args.place + 1) (get_or c.args.slots.now c.args.place Gone))
