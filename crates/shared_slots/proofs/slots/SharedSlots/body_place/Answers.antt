use Rattle.std.proofs.Common.{◌≡◌, ◌∙◌, ◌+◌, ◌≤◌, ℕ, List, length, take, get_or, ap, zero-add, arith}
use Rattle.std.specs.Prelude.{sum_by}
use Rattle.jam_records.specs.declared.message.Slot.{Slot}
use Rattle.jam_layout.specs.Bodies.{body_size}
use Rattle.shared_slots.specs.Kept.{slots_between}
use Rattle.shared_slots.proofs.PlaceLaws.{places_length, place_at, sum_front}
use Rattle.shared_slots.proofs.slots.SharedSlots.body_place.Goals as goal

pub at-requires : goal.at-requires
at-requires c = omega (arith, ap length c.self.invariant.body_places, places_length body_size 0 (slots_between c.self.inside.bodies c.self.inside.slots), ap length c.self.view_is, c.requires)

pub returns-clause-place : goal.returns-clause-place
returns-clause-place c =
    let slots : List Slot = slots_between c.self.inside.bodies c.self.inside.slots in
    let within : c.args.place ≤ length slots = omega (arith, ap length c.self.view_is, c.requires) in
    c.at.ensures ∙ (ap (λ (ps : List ℕ). get_or ps c.args.place c.at.result.now) c.self.invariant.body_places
    ∙ (place_at body_size 0 slots c.args.place c.at.result.now within ∙ (zero-add (sum_by body_size (take c.args.place slots)) ∙ ap (λ (xs : List Slot). sum_by body_size (take c.args.place xs)) c.self.view_is)))

pub returns-clause-within : goal.returns-clause-within
returns-clause-within c =
    let slots : List Slot = slots_between c.self.inside.bodies c.self.inside.slots in
    let within : c.args.place ≤ length slots = omega (arith, ap length c.self.view_is, c.requires) in
    let at : c.at.result.now ≡ 0 + sum_by body_size (take c.args.place slots) =
    c.at.ensures ∙ (ap (λ (ps : List ℕ). get_or ps c.args.place c.at.result.now) c.self.invariant.body_places ∙ place_at body_size 0 slots c.args.place c.at.result.now within) in
    omega (arith, at, sum_front body_size slots c.args.place, ap (sum_by body_size) c.self.view_is)
