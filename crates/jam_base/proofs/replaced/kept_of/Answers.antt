use Rattle.std.proofs.Common.{◌≡◌, ◌+◌, ◌∷◌, [], ◌++◌, List, get_or, length, map, take, sym, ap, ◌∙◌, arith}
use Rattle.std.specs.Prelude.{sum_by}
use Rattle.std.proofs.lemmas.List.{length-map, length-take-le, map-append, take_all, take_more}
use Rattle.std.proofs.lemmas.List.Sums.{sum_by_more_le}
use Rattle.jam_writing.specs.jam_layout.Bodies.{body_size}
use Rattle.jam_writing.specs.jam_layout.Outlines.{slot_outline}
use Rattle.jam_writing.specs.jam_layout.Sizes.{slot_header}
use Rattle.jam_records.specs.declared.message.Slot.{Slot}
use Rattle.jam_base.proofs.EndOutlines.{bodies_sum, headers_sum}
use Rattle.jam_base.proofs.replaced.kept_of.Goals as goal

pub with_slot-requires-clause-few : goal.with_slot-requires-clause-few
with_slot-requires-clause-few c =
    let slots : List Slot = c.args.slots.now in
    let inside = c.loop-slot-test.true in
    let front : length c.loop-slot.kept ≡ c.loop-slot.slot-index = ap length c.loop-slot.invariant ∙ (length-map (take c.loop-slot.slot-index slots) slot_outline ∙ length-take-le c.loop-slot.slot-index slots (omega (arith, inside))) in
    omega (arith, front, inside, c.requires.few)

pub with_slot-requires-clause-headers : goal.with_slot-requires-clause-headers
with_slot-requires-clause-headers c =
    let slots : List Slot = c.args.slots.now in
    let front = ap (sum_by slot_header) c.loop-slot.invariant ∙ headers_sum (take c.loop-slot.slot-index slots) in
    let most = sum_by_more_le slot_header slots c.loop-slot.slot-index c.slot-item.result c.loop-slot-test.true in
    omega (arith, front, most, ap slot_header c.slot-item.is, ap slot_header c.in_ok-duplicate.ensures, c.requires.headers)

pub with_slot-requires-clause-bodies : goal.with_slot-requires-clause-bodies
with_slot-requires-clause-bodies c =
    let slots : List Slot = c.args.slots.now in
    let front = ap (sum_by body_size) c.loop-slot.invariant ∙ bodies_sum (take c.loop-slot.slot-index slots) in
    let most = sum_by_more_le body_size slots c.loop-slot.slot-index c.slot-item.result c.loop-slot-test.true in
    omega (arith, front, most, ap body_size c.slot-item.is, ap body_size c.in_ok-duplicate.ensures, c.requires.bodies)

pub loop-slot-preserved : goal.loop-slot-preserved
loop-slot-preserved c =
    let slots : List Slot = c.args.slots.now in
    let front : List Slot = take c.loop-slot.slot-index slots in
    let s : Slot = get_or slots c.loop-slot.slot-index c.slot-item.result in
    let same : c.in_ok-duplicate.field-0 ≡ s = c.in_ok-duplicate.ensures ∙ c.slot-item.is in
    let added : c.loop-slot.kept ++ slot_outline c.in_ok-duplicate.field-0 ∷ [] ≡ map slot_outline front ++ slot_outline s ∷ [] = λ i. c.loop-slot.invariant i ++ slot_outline (same i) ∷ [] in
    let all : map slot_outline front ++ slot_outline s ∷ [] ≡ map slot_outline (take (c.loop-slot.slot-index + 1) slots) =
    sym (map-append slot_outline front (s ∷ [])) ∙ ap (map slot_outline) (sym (take_more slots c.loop-slot.slot-index c.slot-item.result c.loop-slot-test.true)) in
    c.in_ok-kept-2.ensures ∙ (added ∙ all)

pub returns : goal.returns
returns c = c.loop-slot.invariant ∙ ap (map slot_outline) (take_all c.loop-slot.slot-index c.args.slots.now (omega (arith, c.loop-slot-test.false)))
