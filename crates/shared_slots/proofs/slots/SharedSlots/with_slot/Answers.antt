use Rattle.std.proofs.Common.{◌≡◌, ◌∙◌, ◌∷◌, ◌++◌, [], ℕ, sym, ap, subst}
use Rattle.std.specs.Prelude.{IfOk}
use Rattle.jam_layout.specs.Bodies.{body_size}
use Rattle.jam_layout.specs.Outlines.{slot_outline, slot_with}
use Rattle.jam_records.specs.declared.message.Slot.{Slot}
use Rattle.shared_slots.proofs.KeptLaws.{body_outline, own_with}
use Rattle.shared_slots.proofs.slots.SharedSlots.with_slot.Goals as goal

pub with_bare-requires-clause-size : goal.with_bare-requires-clause-size
with_bare-requires-clause-size c =
    ap (λ (n : ℕ). body_size (slot_with n c.args.slot)) c.body_length-size.ensures ∙ (ap body_size (own_with c.args.slot) ∙ (body_outline c.args.slot ∙ sym c.body_length-size.ensures))

pub returns : goal.returns
returns c =
    let same : slot_with c.body_length-size.result c.args.slot ≡ slot_outline c.args.slot = ap (λ (n : ℕ). slot_with n c.args.slot) c.body_length-size.ensures ∙ own_with c.args.slot in
    subst (λ (s : Slot). IfOk c.with_bare.result (λ more. more ≡ c.args.self ++ s ∷ [])) same c.with_bare.ensures
