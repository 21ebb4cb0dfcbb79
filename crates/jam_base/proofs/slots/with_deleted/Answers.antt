use Rattle.std.proofs.Common.{◌≡◌, ◌∙◌, ◌-◌, ◌<◌, ℕ, List, length, get_or, sym, ap, arith}
use Rattle.std.proofs.Math.ListN.{set}
use Rattle.jam_records.specs.declared.message.Slot.{Slot}
use Rattle.jam_records.specs.declared.message.Slot.TheVariants.{Gone}
use Rattle.jam_writing.specs.jam_layout.Outlines.{slot_bare}
use Rattle.jam_writing.specs.jam_layout.Sizes.{slot_header}
use Rattle.jam_writing.specs.jam_layout.Bodies.{body_size}
use Rattle.jam_writing.specs.shared_slots.Kept.{slot_as_long}
use Rattle.jam_writing.proofs.shared_slots.BareSlots.{bare_is}
use Rattle.jam_writing.proofs.shared_slots.KeptLaws.{header_bare, same_item}
use Rattle.jam_base.specs.Slots.{slot_deleted, slots_deleted}
use Rattle.jam_base.proofs.BareLookups.{deleted_as_long}
use Rattle.jam_base.proofs.ChangeClauses.{one_ok}
use Rattle.jam_base.proofs.MarkedSlots.{deleted_marked}
use Rattle.jam_base.proofs.SlotChanges.{numbered_is}
use Rattle.jam_base.proofs.slots.with_deleted.Goals as goal

pub replaced-requires-clause-header : goal.replaced-requires-clause-header
replaced-requires-clause-header c =
    let old : List Slot = c.args.slots.now in
    let place : ℕ = c.args.number - 1 in
    let within : place < length old = omega arith in
    let s : Slot = get_or old place Gone in
    let slot : c.in_ok-slot.slot ≡ slot_deleted (slot_bare s) = c.in_ok-slot.ensures ∙ ap slot_deleted (bare_is old place c.at.result.now within c.at.ensures) in
    let item : get_or c.in_ok-copy.field-0 place c.in_ok-slot.slot ≡ s = ap (λ (xs : List Slot). get_or xs place c.in_ok-slot.slot) c.in_ok-copy.ensures ∙ same_item old place c.in_ok-slot.slot Gone within in
    ap slot_header slot ∙ ((deleted_marked (slot_bare s)).size ∙ (header_bare s ∙ ap slot_header (sym item)))

pub replaced-requires-clause-body : goal.replaced-requires-clause-body
replaced-requires-clause-body c =
    let old : List Slot = c.args.slots.now in
    let place : ℕ = c.args.number - 1 in
    let within : place < length old = omega arith in
    let s : Slot = get_or old place Gone in
    let slot : c.in_ok-slot.slot ≡ slot_deleted (slot_bare s) = c.in_ok-slot.ensures ∙ ap slot_deleted (bare_is old place c.at.result.now within c.at.ensures) in
    let item : get_or c.in_ok-copy.field-0 place c.in_ok-slot.slot ≡ s = ap (λ (xs : List Slot). get_or xs place c.in_ok-slot.slot) c.in_ok-copy.ensures ∙ same_item old place c.in_ok-slot.slot Gone within in
    (λ i. body_size (slot_as_long (item i) (slot i))) ∙ (ap body_size (deleted_as_long s) ∙ (ap (length {A = ℕ}) (deleted_marked s).body ∙ ap body_size (sym item)))

pub returns : goal.returns
returns c =
    let old : List Slot = c.args.slots.now in
    let number : ℕ = c.args.number in
    let place : ℕ = number - 1 in
    let within : place < length old = omega arith in
    let s : Slot = get_or old place Gone in
    let slot : c.in_ok-slot.slot ≡ slot_deleted (slot_bare s) = c.in_ok-slot.ensures ∙ ap slot_deleted (bare_is old place c.at.result.now within c.at.ensures) in
    let item : get_or c.in_ok-copy.field-0 place c.in_ok-slot.slot ≡ s = ap (λ (xs : List Slot). get_or xs place c.in_ok-slot.slot) c.in_ok-copy.ensures ∙ same_item old place c.in_ok-slot.slot Gone within in
    one_ok (λ (new : List Slot). new ≡ set c.in_ok-copy.field-0 place (slot_as_long (get_or c.in_ok-copy.field-0 place c.in_ok-slot.slot) c.in_ok-slot.slot)) (λ (new : List Slot). new ≡ slots_deleted number old) c.replaced.result
    (λ new is. is ∙ ((λ i. set (c.in_ok-copy.ensures i) place (slot_as_long (item i) (slot i))) ∙ ap (set old place) (deleted_as_long s ∙ ap slot_deleted (sym (numbered_is old number c.requires.above))))) c.replaced.ensures
