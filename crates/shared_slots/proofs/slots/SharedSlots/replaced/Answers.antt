use Rattle.std.proofs.Common.{◌≡◌, ◌∙◌, ◌+◌, ◌<◌, ◌-◌, ℕ, List, length, get_or, sym, ap, arith}
use Rattle.std.proofs.Math.ListN.{set}
use Rattle.jam_records.specs.declared.message.Slot.{Slot}
use Rattle.jam_layout.specs.Sizes.{slot_header}
use Rattle.jam_layout.specs.Bodies.{body_size}
use Rattle.jam_layout.specs.Outlines.{slot_bare}
use Rattle.shared_slots.specs.Kept.{one_live, slot_as_long, slots_between}
use Rattle.shared_slots.proofs.KeptLaws.{kept_seen, kept_set, item_map, live_bare, seen_is}
use Rattle.shared_slots.proofs.slots.SharedSlots.replaced.Goals as goal

pub invariant_of-result : goal.invariant_of-result
invariant_of-result c =
    let old : List Slot = slots_between c.self.inside.bodies c.self.inside.slots in
    let place : ℕ = c.args.place in
    let within : place < length old = omega (arith, ap length c.self.view_is, c.requires.within) in
    let there : get_or c.args.self place c.args.slot ≡ get_or old place c.args.slot = ap (λ (xs : List Slot). get_or xs place c.args.slot) (sym c.self.view_is) in
    let found : c.at.result.now ≡ slot_bare (get_or old place c.args.slot) = c.at.ensures ∙ (item_map slot_bare c.args.self place c.args.slot c.at.result.now c.requires.within ∙ ap slot_bare there) in
    let live : c.live_in-2.result ≡ one_live (get_or old place c.args.slot) = c.live_in-2.ensures ∙ (ap one_live found ∙ live_bare (get_or old place c.args.slot)) in
    kept_seen (set old place (slot_as_long (get_or old place c.args.slot) c.args.slot)) c.set.new.self c.self.inside.headers c.self.inside.bodies _
    (kept_set old c.self.inside.slots c.self.inside.headers c.self.inside.bodies c.self.inside.live place c.args.slot c.args.slot c.set.new.self _ within
    (c.in_ok-set.ensures.ok ∙ ap (λ (x : Slot). set c.self.inside.slots place x) (c.in_ok-new.ensures ∙ c.without_body.ensures)) (c.requires.header ∙ ap slot_header there)
    (ap (λ (x : Slot). body_size (slot_as_long x c.args.slot)) (sym there) ∙ (c.requires.body ∙ ap body_size there))
    (omega (arith, c.live_in.ensures, live)) c.self.invariant)

pub returns : goal.returns
returns c =
    let old : List Slot = slots_between c.self.inside.bodies c.self.inside.slots in
    let place : ℕ = c.args.place in
    let within : place < length old = omega (arith, ap length c.self.view_is, c.requires.within) in
    let there : get_or c.args.self place c.args.slot ≡ get_or old place c.args.slot = ap (λ (xs : List Slot). get_or xs place c.args.slot) (sym c.self.view_is) in
    let found : c.at.result.now ≡ slot_bare (get_or old place c.args.slot) = c.at.ensures ∙ (item_map slot_bare c.args.self place c.args.slot c.at.result.now c.requires.within ∙ ap slot_bare there) in
    let live : c.live_in-2.result ≡ one_live (get_or old place c.args.slot) = c.live_in-2.ensures ∙ (ap one_live found ∙ live_bare (get_or old place c.args.slot)) in
    seen_is (set old place (slot_as_long (get_or old place c.args.slot) c.args.slot)) c.set.new.self c.self.inside.headers c.self.inside.bodies ((c.self.inside.live + c.live_in.result) - c.live_in-2.result)
    (kept_set old c.self.inside.slots c.self.inside.headers c.self.inside.bodies c.self.inside.live place c.args.slot c.args.slot c.set.new.self ((c.self.inside.live + c.live_in.result) - c.live_in-2.result) within
    (c.in_ok-set.ensures.ok ∙ ap (λ (x : Slot). set c.self.inside.slots place x) (c.in_ok-new.ensures ∙ c.without_body.ensures)) (c.requires.header ∙ ap slot_header there)
    (ap (λ (x : Slot). body_size (slot_as_long x c.args.slot)) (sym there) ∙ (c.requires.body ∙ ap body_size there))
    (omega (arith, c.live_in.ensures, live)) c.self.invariant)
    ∙ (λ i. set (c.self.view_is i) place (slot_as_long (get_or (c.self.view_is i) place c.args.slot) c.args.slot))
