use Rattle.std.proofs.Common.{refl, subst, arith}
use Rattle.std.specs.Prelude.{All}
use Rattle.std.proofs.lemmas.List.{take_all}
use Rattle.std.proofs.lemmas.List.Elements.{All-more}
use Rattle.jam_records.specs.declared.message.Message.{Message}
use Rattle.slot_changes.specs.Values.{MayHold}
use Rattle.slot_changes.proofs.value.may_hold_all.Goals as goal

pub loop-message-preserved : goal.loop-message-preserved
loop-message-preserved c =
    let m : Message = c.message-item.result in
    All-more (MayHold c.args.kind) c.args.messages.now c.loop-message.message-index m (omega arith) c.loop-message.invariant (subst (MayHold c.args.kind) c.message-item.is (c.may_hold.ensures.0 c.if-not-may_hold.false))

pub returns : goal.returns
returns c = (λ yes. subst (All (MayHold c.args.kind)) (take_all c.loop-message.message-index c.args.messages.now (omega arith)) c.loop-message.invariant, λ all. refl)
