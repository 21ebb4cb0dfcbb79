use Rattle.std.proofs.Common.{rules, ◌≡◌, ◌∙◌, ℕ, [], ◌∷◌, ◌++◌, List, length, sym, ap, arith}
use Rattle.std.proofs.lemmas.List.{append-nil, nil_from_length}
use Rattle.std.specs.Vec.Iter.{into_iter_items}
use Rattle.jam_records.specs.declared.message.Slot.{Slot}
use Rattle.jam_layout.specs.Bare.{filled_slots, first_length}
use Rattle.jam_layout.specs.Bodies.{body_size}
use Rattle.jam_layout.specs.Outlines.{slot_with}
use Rattle.jam_layout.specs.Sizes.{slot_header}
use Rattle.shared_slots.proofs.KeptLaws.{filled_length, header_with, headers_filled, next_few, next_taken, next_within, size_filled}
use Rattle.shared_slots.proofs.slots.SharedSlots.from_bare.Goals as goal

pub loop-slot-init : goal.loop-slot-init
loop-slot-init c =
    let items : into_iter_items c.into_iter-slot-iterator.result ≡ c.args.slots = c.into_iter-slot-iterator.ensures.into_iter_gives.0 ∙ c.into_vec-slot-items.ensures in
    record {
      so_far = (λ i. c.in_ok-shared.ensures i ++ filled_slots c.args.lengths.now (items i));
      counted = search rules;
      can_next = tt;
      is_finite = tt;
    }

pub with_bare-requires-clause-few : goal.with_bare-requires-clause-few
with_bare-requires-clause-few c =
    let few = next_few c.loop-slot.shared c.loop-slot.rest.now (into_iter_items c.loop-slot.slot-iterator) c.in-Some.slot (into_iter_items c.next.new.self) (filled_slots c.args.lengths.now c.args.slots) c.in-Some.ensures.steps.0 c.loop-slot.invariant.so_far in
    omega (arith, few, filled_length c.args.lengths.now c.args.slots, c.requires.few)

pub with_bare-requires-clause-size : goal.with_bare-requires-clause-size
with_bare-requires-clause-size c =
    ap (λ (n : ℕ). body_size (slot_with n c.in-Some.slot)) c.next_length-size.ensures.first ∙ (size_filled c.loop-slot.rest.now c.in-Some.slot ∙ sym c.next_length-size.ensures.first)

pub with_bare-requires-clause-headers : goal.with_bare-requires-clause-headers
with_bare-requires-clause-headers c =
    let small = next_within c.loop-slot.shared c.loop-slot.rest.now (into_iter_items c.loop-slot.slot-iterator) c.in-Some.slot (into_iter_items c.next.new.self) (filled_slots c.args.lengths.now c.args.slots) c.in-Some.ensures.steps.0 c.loop-slot.invariant.so_far slot_header in
    omega (arith, small, header_with (first_length c.loop-slot.rest.now c.in-Some.slot) c.in-Some.slot, headers_filled c.args.lengths.now c.args.slots, c.requires.headers)

pub with_bare-requires-clause-bodies : goal.with_bare-requires-clause-bodies
with_bare-requires-clause-bodies c =
    let small = next_within c.loop-slot.shared c.loop-slot.rest.now (into_iter_items c.loop-slot.slot-iterator) c.in-Some.slot (into_iter_items c.next.new.self) (filled_slots c.args.lengths.now c.args.slots) c.in-Some.ensures.steps.0 c.loop-slot.invariant.so_far body_size in
    omega (arith, small, size_filled c.loop-slot.rest.now c.in-Some.slot, c.next_length-size.ensures.first, c.requires.bodies)

pub loop-slot-preserved : goal.loop-slot-preserved
loop-slot-preserved c =
    let v = c.loop-slot.invariant in
    let steps = c.in-Some.ensures.steps in
    record {
      so_far = next_taken c.loop-slot.shared c.loop-slot.rest.now (into_iter_items c.loop-slot.slot-iterator) c.in-Some.slot (into_iter_items c.next.new.self) (filled_slots c.args.lengths.now c.args.slots) c.in-Some.ensures.steps.0 c.loop-slot.invariant.so_far c.in_ok-shared-2.shared _
          (c.in_ok-shared-2.ensures ∙ ap (λ (n : ℕ). c.loop-slot.shared ++ slot_with n c.in-Some.slot ∷ []) c.next_length-size.ensures.first) c.next_length-size.ensures.others;
      counted = omega (arith, steps.1, v.counted, ap length steps.0);
      can_next = tt;
      is_finite = tt;
    }

pub returns : goal.returns
returns c =
    let v = c.loop-slot.invariant in
    let none = nil_from_length (into_iter_items c.loop-slot.slot-iterator) (sym v.counted ∙ c.in-None.ensures.steps.0) in
    sym (append-nil c.loop-slot.shared) ∙ (ap (λ (xs : List Slot). c.loop-slot.shared ++ filled_slots c.loop-slot.rest.now xs) (sym none) ∙ v.so_far)
