use Rattle.std.proofs.Common.{◌≡◌, ◌∙◌, ◌+◌, ◌<◌, ◌≤◌, ◌^◌, ℕ, List, [], ◌∷◌, ◌++◌, length, take, sym, ap, arith}
use Rattle.std.specs.Prelude.{sum_by}
use Rattle.std.proofs.lemmas.List.{take_all}
use Rattle.jam_records.specs.declared.message.Slot.{Slot}
use Rattle.jam_layout.specs.Sizes.{slot_header}
use Rattle.jam_layout.specs.Bodies.{body_size}
use Rattle.jam_layout.specs.Outlines.{slot_outline, slot_with}
use Rattle.shared_slots.specs.Kept.{slots_between}
use Rattle.shared_slots.proofs.KeptLaws.{bare_with, header_with, kept_more, kept_seen, live_with, outline_with, seen_is}
use Rattle.shared_slots.proofs.slots.SharedSlots.with_bare.Goals as goal

pub invariant_of-result : goal.invariant_of-result
invariant_of-result c =
    let old : List Slot = slots_between c.self.inside.bodies c.self.inside.slots in
    let more : Slot = slot_with c.args.size c.args.slot in
    let header : ℕ = c.header_place.result + c.header_length.result in
    let body : ℕ = c.body_place.result + c.args.size in
    let most : length c.args.self ≤ c.len-count.result = omega (arith, c.len-count.ensures.count) in
    let all : take c.len-count.result c.args.self ≡ old = take_all c.len-count.result c.args.self most ∙ sym c.self.view_is in
    let headers = ap (sum_by slot_header) c.self.view_is in
    let bodies = ap (sum_by body_size) c.self.view_is in
    let header_is : header ≡ 1024 + (sum_by slot_header old + slot_header more) = omega (arith, c.header_place.ensures.place, ap (sum_by slot_header) all, c.header_length.ensures, header_with c.args.size c.args.slot) in
    let body_is : body ≡ sum_by body_size old + body_size more = omega (arith, c.body_place.ensures.place, ap (sum_by body_size) all, c.requires.size) in
    let header_small : header < 2 ^ 31 = omega (arith, header_is, headers, c.requires.headers, header_with c.args.size c.args.slot) in
    let body_small : body < 2 ^ 31 = omega (arith, body_is, bodies, c.requires.bodies, c.requires.size) in
    kept_seen (old ++ slot_outline more ∷ []) c.add.new.self c.add-2.new.self c.add-3.new.self _
    (kept_more old c.self.inside.slots c.self.inside.headers c.self.inside.bodies c.self.inside.live more c.add.new.self c.add-2.new.self c.add-3.new.self header body _
    (c.in_ok-add.ensures.ok ∙ ap (λ (s : Slot). c.self.inside.slots ++ s ∷ []) (c.in_ok-new.ensures ∙ (c.without_body.ensures ∙ sym (bare_with c.args.size c.args.slot)))) c.in_ok-add-2.ensures.ok c.in_ok-add-3.ensures.ok header_is body_is
    (omega (arith, c.live_in.ensures, live_with c.args.size c.args.slot)) (omega (arith, ap length c.self.view_is, c.requires.few)) header_small body_small c.self.invariant)

pub returns : goal.returns
returns c =
    let old : List Slot = slots_between c.self.inside.bodies c.self.inside.slots in
    let more : Slot = slot_with c.args.size c.args.slot in
    let header : ℕ = c.header_place.result + c.header_length.result in
    let body : ℕ = c.body_place.result + c.args.size in
    let most : length c.args.self ≤ c.len-count.result = omega (arith, c.len-count.ensures.count) in
    let all : take c.len-count.result c.args.self ≡ old = take_all c.len-count.result c.args.self most ∙ sym c.self.view_is in
    let headers = ap (sum_by slot_header) c.self.view_is in
    let bodies = ap (sum_by body_size) c.self.view_is in
    let header_is : header ≡ 1024 + (sum_by slot_header old + slot_header more) = omega (arith, c.header_place.ensures.place, ap (sum_by slot_header) all, c.header_length.ensures, header_with c.args.size c.args.slot) in
    let body_is : body ≡ sum_by body_size old + body_size more = omega (arith, c.body_place.ensures.place, ap (sum_by body_size) all, c.requires.size) in
    let header_small : header < 2 ^ 31 = omega (arith, header_is, headers, c.requires.headers, header_with c.args.size c.args.slot) in
    let body_small : body < 2 ^ 31 = omega (arith, body_is, bodies, c.requires.bodies, c.requires.size) in
    seen_is (old ++ slot_outline more ∷ []) c.add.new.self c.add-2.new.self c.add-3.new.self (c.self.inside.live + c.live_in.result)
    (kept_more old c.self.inside.slots c.self.inside.headers c.self.inside.bodies c.self.inside.live more c.add.new.self c.add-2.new.self c.add-3.new.self header body (c.self.inside.live + c.live_in.result)
    (c.in_ok-add.ensures.ok ∙ ap (λ (s : Slot). c.self.inside.slots ++ s ∷ []) (c.in_ok-new.ensures ∙ (c.without_body.ensures ∙ sym (bare_with c.args.size c.args.slot)))) c.in_ok-add-2.ensures.ok c.in_ok-add-3.ensures.ok header_is body_is
    (omega (arith, c.live_in.ensures, live_with c.args.size c.args.slot)) (omega (arith, ap length c.self.view_is, c.requires.few)) header_small body_small c.self.invariant)
    ∙ (λ i. c.self.view_is i ++ outline_with c.args.size c.args.slot i ∷ [])
