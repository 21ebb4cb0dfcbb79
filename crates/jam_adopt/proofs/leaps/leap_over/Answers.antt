use Rattle.std.proofs.Common.{refl, ap, ◌∙◌, arith}
use Rattle.std.specs.Prelude.{bit_or}
use Rattle.record_numbers.proofs.NumberLemmas.{all_bytes}
use Rattle.jam_adopt.specs.Leaps.{bit_of_id}
use Rattle.jam_adopt.proofs.LeapSteps.{leap_over_one, leap_over_three}
use Rattle.jam_adopt.proofs.leaps.leap_over.Goals as goal

pub returns-then-first-second : goal.returns-then-first-second
returns-then-first-second c =
    leap_over_one c.args.jhr.now c.args.at c.args.end _ (all_bytes c.args.jhr.now (λ i. omega (arith, c.type_inv.jhr i))) c.requires.field.0 c.requires.field.1 c.requires.field.2 refl (c.id_bit-ids.ensures ∙ ap bit_of_id c.u16_at.ensures)

pub returns : goal.returns
returns c =
    leap_over_three c.args.jhr.now c.args.at c.args.end _ c.args.first c.args.second (all_bytes c.args.jhr.now (λ i. omega (arith, c.type_inv.jhr i))) c.requires.field.0 c.requires.field.1 c.requires.field.2 c.requires.first c.requires.second refl
    (ap (λ own. bit_or (bit_or own c.args.first.ids) c.args.second.ids) (c.id_bit-ids.ensures ∙ ap bit_of_id c.u16_at.ensures))
