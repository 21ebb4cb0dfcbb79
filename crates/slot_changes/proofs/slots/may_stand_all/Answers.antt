use Rattle.std.proofs.Common.{refl, subst, arith}
use Rattle.std.specs.Prelude.{All}
use Rattle.std.proofs.lemmas.List.{take_all}
use Rattle.std.proofs.lemmas.List.Elements.{All-more}
use Rattle.jam_layout.specs.Messages.{IsSlot}
use Rattle.jam_records.specs.declared.message.Slot.{Slot}
use Rattle.slot_changes.proofs.slots.may_stand_all.Goals as goal

pub loop-slot-preserved : goal.loop-slot-preserved
loop-slot-preserved c =
    let s : Slot = c.slot-item.result in
    All-more (IsSlot c.args.kind) c.args.slots.now c.loop-slot.slot-index s (omega arith) c.loop-slot.invariant (subst (IsSlot c.args.kind) c.slot-item.is (c.may_stand.ensures.0 c.if-not-may_stand.false))

pub returns : goal.returns
returns c = (λ yes. subst (All (IsSlot c.args.kind)) (take_all c.loop-slot.slot-index c.args.slots.now (omega arith)) c.loop-slot.invariant, λ all. refl)
