use Rattle.std.proofs.Common.{◌≡◌, ◌∙◌, ◌+◌, ℕ, List, length, get_or, sym, ap}
use Rattle.std.specs.Prelude.{Option, unwrap_or}
use Rattle.std.proofs.Math.ListN.{set}
use Rattle.jam_records.specs.declared.message.Slot.{Slot}
use Rattle.jam_records.specs.declared.message.Slot.TheVariants.{Gone}
use Rattle.jam_writing.specs.jam_layout.Bodies.{body_size}
use Rattle.jam_writing.specs.jam_layout.Outlines.{slot_bare}
use Rattle.jam_writing.specs.jam_layout.Sizes.{slot_header}
use Rattle.jam_writing.specs.shared_slots.Kept.{slot_as_long}
use Rattle.jam_writing.proofs.shared_slots.BareSlots.{bare_is}
use Rattle.jam_writing.proofs.shared_slots.KeptLaws.{header_bare, same_item}
use Rattle.jam_base.specs.Slots.{slot_received}
use Rattle.jam_base.proofs.BareLookups.{received_as_long, unreceived_bare}
use Rattle.jam_base.proofs.ChangeClauses.{one_ok}
use Rattle.jam_base.proofs.MarkedSlots.{received_marked}
use Rattle.jam_base.proofs.ReceivedLoop.{set_item}
use Rattle.jam_base.proofs.receipt.received_at.Goals as goal

pub replaced-requires-clause-header : goal.replaced-requires-clause-header
replaced-requires-clause-header c =
    let s : Slot = get_or c.args.slots c.args.place Gone in
    let bare : c.at.result.now ≡ slot_bare s = bare_is c.args.slots c.args.place c.at.result.now c.requires.place c.at.ensures in
    let slot : c.in-Some.slot ≡ slot_received c.args.name.now c.args.receipt (c.args.place + 1) (slot_bare s) =
    sym (ap (slot_received c.args.name.now c.args.receipt (c.args.place + 1)) (sym bare) ∙ (c.in_ok-received.ensures ∙ ap (λ (o : Option Slot). unwrap_or o c.at.result.now) c.in-Some.is)) in
    let item : get_or c.args.slots c.args.place c.in-Some.slot ≡ s = same_item c.args.slots c.args.place c.in-Some.slot Gone c.requires.place in
    ap slot_header slot ∙ ((received_marked c.args.name.now c.args.receipt (c.args.place + 1) (slot_bare s)).size ∙ (header_bare s ∙ ap slot_header (sym item)))

pub replaced-requires-clause-body : goal.replaced-requires-clause-body
replaced-requires-clause-body c =
    let s : Slot = get_or c.args.slots c.args.place Gone in
    let bare : c.at.result.now ≡ slot_bare s = bare_is c.args.slots c.args.place c.at.result.now c.requires.place c.at.ensures in
    let slot : c.in-Some.slot ≡ slot_received c.args.name.now c.args.receipt (c.args.place + 1) (slot_bare s) =
    sym (ap (slot_received c.args.name.now c.args.receipt (c.args.place + 1)) (sym bare) ∙ (c.in_ok-received.ensures ∙ ap (λ (o : Option Slot). unwrap_or o c.at.result.now) c.in-Some.is)) in
    let item : get_or c.args.slots c.args.place c.in-Some.slot ≡ s = same_item c.args.slots c.args.place c.in-Some.slot Gone c.requires.place in
    (λ i. body_size (slot_as_long (item i) (slot i)))
    ∙ (ap body_size (received_as_long c.args.name.now c.args.receipt (c.args.place + 1) s) ∙ (ap (length {A = ℕ}) (received_marked c.args.name.now c.args.receipt (c.args.place + 1) s).body ∙ ap body_size (sym item)))

pub returns-in-None : goal.returns-in-None
returns-in-None c =
    let s : Slot = get_or c.args.slots c.args.place Gone in
    let bare : c.at.result.now ≡ slot_bare s = bare_is c.args.slots c.args.place c.at.result.now c.requires.place c.at.ensures in
    let same : slot_received c.args.name.now c.args.receipt (c.args.place + 1) (slot_bare s) ≡ slot_bare s =
    ap (slot_received c.args.name.now c.args.receipt (c.args.place + 1)) (sym bare) ∙ (c.in_ok-received.ensures ∙ (ap (λ (o : Option Slot). unwrap_or o c.at.result.now) c.in-None.is ∙ bare)) in
    sym (ap (set c.args.slots c.args.place) (unreceived_bare c.args.name.now c.args.receipt (c.args.place + 1) s same) ∙ set_item c.args.slots c.args.place Gone)

pub returns-in-Some : goal.returns-in-Some
returns-in-Some c =
    let s : Slot = get_or c.args.slots c.args.place Gone in
    let bare : c.at.result.now ≡ slot_bare s = bare_is c.args.slots c.args.place c.at.result.now c.requires.place c.at.ensures in
    let slot : c.in-Some.slot ≡ slot_received c.args.name.now c.args.receipt (c.args.place + 1) (slot_bare s) =
    sym (ap (slot_received c.args.name.now c.args.receipt (c.args.place + 1)) (sym bare) ∙ (c.in_ok-received.ensures ∙ ap (λ (o : Option Slot). unwrap_or o c.at.result.now) c.in-Some.is)) in
    let item : get_or c.args.slots c.args.place c.in-Some.slot ≡ s = same_item c.args.slots c.args.place c.in-Some.slot Gone c.requires.place in
    one_ok (λ (new : List Slot). new ≡ set c.args.slots c.args.place (slot_as_long (get_or c.args.slots c.args.place c.in-Some.slot) c.in-Some.slot))
    (λ (new : List Slot). new ≡ set c.args.slots c.args.place (slot_received c.args.name.now c.args.receipt (c.args.place + 1) s)) c.replaced.result
    (λ new is. is ∙ ((λ i. set c.args.slots c.args.place (slot_as_long (item i) (slot i))) ∙ ap (set c.args.slots c.args.place) (received_as_long c.args.name.now c.args.receipt (c.args.place + 1) s))) c.replaced.ensures
