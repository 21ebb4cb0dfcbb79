use Rattle.std.proofs.Common.{◌≡◌, ◌∙◌, List, ap}
use Rattle.jam_records.specs.declared.message.Slot.{Slot}
use Rattle.jam_base.specs.Contents.{Contents, with_slots}
use Rattle.jam_base.specs.Slots.{slots_deleted}
use Rattle.jam_base.proofs.BaseLaws.{deleted_threads}
use Rattle.jam_base.proofs.ChangeClauses.{one_ok}
use Rattle.jam_base.proofs.SlotChanges.{live_above, live_within, deleted_is}
use Rattle.jam_base.proofs.base.Base.with_deletion.Goals as goal

pub changed-requires-clause-conference : goal.changed-requires-clause-conference
changed-requires-clause-conference c =
    let base : Contents = c.args.self.now in
    deleted_is base c.in_ok-slots.slots c.args.number (c.in_ok-slots.ensures ∙ ap (slots_deleted c.args.number) c.slots.ensures.same)
    (live_above c.args.number base.conference.slots c.requires) (live_within c.args.number base.conference.slots c.requires) c.slots.ensures.is_conference

pub changed-requires-clause-threads : goal.changed-requires-clause-threads
changed-requires-clause-threads c =
    let base : Contents = c.args.self.now in
    deleted_threads base.conference.slots c.in_ok-slots.slots c.args.number (c.in_ok-slots.ensures ∙ ap (slots_deleted c.args.number) c.slots.ensures.same)
    (live_above c.args.number base.conference.slots c.requires) (live_within c.args.number base.conference.slots c.requires)

pub returns : goal.returns
returns c =
    let base : Contents = c.args.self.now in
    let slots : c.in_ok-slots.slots ≡ slots_deleted c.args.number base.conference.slots = c.in_ok-slots.ensures ∙ ap (slots_deleted c.args.number) c.slots.ensures.same in
    one_ok (λ (next : Contents). next ≡ with_slots c.in_ok-slots.slots base) (λ (next : Contents). next ≡ with_slots (slots_deleted c.args.number base.conference.slots) base) c.changed.result
    (λ next is. is ∙ ap (λ (xs : List Slot). with_slots xs base) slots) c.changed.ensures
