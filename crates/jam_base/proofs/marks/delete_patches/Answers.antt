use Rattle.std.proofs.Common.{◌≡◌, ◌∙◌, ◌-◌, ◌<◌, ℕ, List, length, get_or, sym, ap, arith}
use Rattle.intent_journal.specs.declared.patch.Patch.{Patch}
use Rattle.jam_records.specs.declared.message.Slot.{Slot}
use Rattle.jam_records.specs.declared.message.Slot.TheVariants.{Gone}
use Rattle.jam_writing.proofs.shared_slots.BareSlots.{bare_is}
use Rattle.jam_base.specs.MarkPuts.{delete_put, delete_puts}
use Rattle.jam_base.specs.Slots.{numbered}
use Rattle.jam_base.proofs.BareLookups.{delete_bare}
use Rattle.jam_base.proofs.ChangeClauses.{one_ok}
use Rattle.jam_base.proofs.SlotChanges.{numbered_is}
use Rattle.jam_base.proofs.marks.delete_patches.Goals as goal

pub returns : goal.returns
returns c =
    let old : List Slot = c.args.slots.now in
    let number : ℕ = c.args.number in
    let within : number - 1 < length old = omega arith in
    let s : Slot = get_or old (number - 1) Gone in
    one_ok (λ (patches : List Patch). patches ≡ delete_put c.args.kind c.args.place c.header_place-at.result number c.at.result.now) (λ (patches : List Patch). patches ≡ delete_puts c.args.kind c.args.place old number (numbered old number)) c.deletion_of.result
    (λ patches is. is ∙ ((λ i. delete_put c.args.kind c.args.place (c.header_place-at.ensures.place i) number (bare_is old (number - 1) c.at.result.now within c.at.ensures i))
    ∙ (delete_bare c.args.kind c.args.place _ number s ∙ ap (delete_puts c.args.kind c.args.place old number) (sym (numbered_is old number c.requires.above))))) c.deletion_of.ensures
