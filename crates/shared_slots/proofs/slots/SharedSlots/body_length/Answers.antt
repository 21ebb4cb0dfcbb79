use Rattle.std.proofs.Common.{arith}
use Rattle.std.proofs.lemmas.List.Sums.{sum_by_more}
use Rattle.jam_layout.specs.Bodies.{body_size}
use Rattle.jam_records.specs.declared.message.Slot.TheVariants.{Gone}
use Rattle.shared_slots.proofs.slots.SharedSlots.body_length.Goals as goal

pub overflow_add-place : goal.overflow_add-place
overflow_add-place c = omega (arith, c.len-count.ensures.few, c.requires)

pub overflow_sub-result : goal.overflow_sub-result
overflow_sub-result c = omega (arith, c.body_place.ensures.place, c.body_place-2.ensures.place, sum_by_more body_size c.args.self.now c.args.place Gone c.requires)

pub returns : goal.returns
returns c = omega (arith, c.body_place.ensures.place, c.body_place-2.ensures.place, sum_by_more body_size c.args.self.now c.args.place Gone c.requires)
