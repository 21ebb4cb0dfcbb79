use Rattle.std.proofs.Common.{◌≡◌, ◌∙◌, ◌∷◌, List, length, map, sym, ap, arith}
use Rattle.std.specs.Prelude.{sum_by}
use Rattle.std.specs.Vec.Iter.{into_iter_items}
use Rattle.jam_records.specs.declared.message.Message.{Message}
use Rattle.jam_records.specs.declared.message.Slot.{Slot}
use Rattle.jam_records.specs.declared.message.Slot.TheVariants.{Held}
use Rattle.jam_writing.specs.jam_layout.Outlines.{message_outline}
use Rattle.jam_writing.proofs.shared_slots.KeptLaws.{body_outline, header_outline}
use Rattle.jam_writing.specs.jam_layout.Sizes.{slot_header}
use Rattle.jam_writing.specs.jam_layout.Bodies.{body_size}
use Rattle.jam_base.specs.Slots.{slots_with_all}
use Rattle.jam_base.proofs.BaseLaws.{next_fits}
use Rattle.jam_base.proofs.SlotChanges.{length_all}
use Rattle.jam_base.proofs.slots.with_messages.Goals as goal

pub with_slot-requires-clause-few : goal.with_slot-requires-clause-few
with_slot-requires-clause-few c =
    let longer : List Slot = c.loop-message.longer in
    let rest : List Message = map message_outline (into_iter_items c.next.new.self) in
    let m : Message = message_outline c.in-Some.message in
    let so_far : slots_with_all longer (m ∷ rest) ≡ slots_with_all c.in_ok-longer.longer (map message_outline c.args.messages) = ap (λ (ms : List Message). slots_with_all longer (map message_outline ms)) (sym c.in-Some.ensures.steps.0) ∙ c.loop-message.invariant.so_far in
    let all = ap (λ (xs : List Slot). length (slots_with_all xs (map message_outline c.args.messages))) c.in_ok-longer.ensures in
    omega (arith, length_all longer (m ∷ rest), ap length so_far, all, c.requires.few)

pub with_slot-requires-clause-headers : goal.with_slot-requires-clause-headers
with_slot-requires-clause-headers c =
    let longer : List Slot = c.loop-message.longer in
    let rest : List Message = map message_outline (into_iter_items c.next.new.self) in
    let m : Message = message_outline c.in-Some.message in
    let made : List Slot = slots_with_all c.in_ok-longer.longer (map message_outline c.args.messages) in
    let so_far : slots_with_all longer (m ∷ rest) ≡ made = ap (λ (ms : List Message). slots_with_all longer (map message_outline ms)) (sym c.in-Some.ensures.steps.0) ∙ c.loop-message.invariant.so_far in
    let all = ap (λ (xs : List Slot). sum_by slot_header (slots_with_all xs (map message_outline c.args.messages))) c.in_ok-longer.ensures in
    omega (arith, next_fits slot_header longer made m rest so_far, header_outline (Held c.in-Some.message), all, c.requires.headers)

pub with_slot-requires-clause-bodies : goal.with_slot-requires-clause-bodies
with_slot-requires-clause-bodies c =
    let longer : List Slot = c.loop-message.longer in
    let rest : List Message = map message_outline (into_iter_items c.next.new.self) in
    let m : Message = message_outline c.in-Some.message in
    let made : List Slot = slots_with_all c.in_ok-longer.longer (map message_outline c.args.messages) in
    let so_far : slots_with_all longer (m ∷ rest) ≡ made = ap (λ (ms : List Message). slots_with_all longer (map message_outline ms)) (sym c.in-Some.ensures.steps.0) ∙ c.loop-message.invariant.so_far in
    let all = ap (λ (xs : List Slot). sum_by body_size (slots_with_all xs (map message_outline c.args.messages))) c.in_ok-longer.ensures in
    omega (arith, next_fits body_size longer made m rest so_far, body_outline (Held c.in-Some.message), all, c.requires.bodies)
