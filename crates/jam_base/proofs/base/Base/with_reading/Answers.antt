use Rattle.std.proofs.Common.{◌≡◌, ◌∙◌, List, ap, arith}
use Rattle.jam_records.specs.declared.message.Slot.{Slot}
use Rattle.jam_base.specs.Contents.{Contents, with_slots}
use Rattle.jam_base.specs.Slots.{slots_received}
use Rattle.jam_base.proofs.BaseLaws.{received_threads}
use Rattle.jam_base.proofs.ChangeClauses.{one_ok}
use Rattle.jam_base.proofs.SlotChanges.{received_is}
use Rattle.jam_base.proofs.base.Base.with_reading.Goals as goal

pub changed-requires-clause-conference : goal.changed-requires-clause-conference
changed-requires-clause-conference c =
    let base : Contents = c.args.self.now in
    received_is base c.in_ok-slots.slots c.args.name.now c.args.receipt (c.in_ok-slots.ensures ∙ ap (slots_received c.args.name.now c.args.receipt 1) c.slots.ensures.same) (omega arith) c.slots.ensures.is_conference

pub changed-requires-clause-threads : goal.changed-requires-clause-threads
changed-requires-clause-threads c =
    received_threads c.args.self.now.conference.slots c.in_ok-slots.slots c.args.name.now c.args.receipt (c.in_ok-slots.ensures ∙ ap (slots_received c.args.name.now c.args.receipt 1) c.slots.ensures.same)

pub returns : goal.returns
returns c =
    let base : Contents = c.args.self.now in
    let slots : c.in_ok-slots.slots ≡ slots_received c.args.name.now c.args.receipt 1 base.conference.slots = c.in_ok-slots.ensures ∙ ap (slots_received c.args.name.now c.args.receipt 1) c.slots.ensures.same in
    one_ok (λ (next : Contents). next ≡ with_slots c.in_ok-slots.slots base) (λ (next : Contents). next ≡ with_slots (slots_received c.args.name.now c.args.receipt 1 base.conference.slots) base) c.changed.result
    (λ next is. is ∙ ap (λ (xs : List Slot). with_slots xs base) slots) c.changed.ensures
