use Rattle.std.proofs.Common.{sym, ap, ◌∙◌, arith}
use Rattle.std.specs.Prelude.{bit_and}
use Rattle.record_numbers.proofs.NumberLemmas.{all_bytes}
use Rattle.jam_adopt.specs.Leaps.{bit_of_id}
use Rattle.jam_adopt.proofs.OneField.{passes_one}
use Rattle.jam_adopt.proofs.leaps.Leaps.behind.Goals as goal

pub returns : goal.returns
returns c =
    let found = c.in_ok-end.ensures in
    let other = sym (ap (λ own. bit_and own c.args.bits) (c.id_bit.ensures ∙ ap bit_of_id c.u16_at.ensures)) ∙ c.if-id_bit-bits-ne0.false in (
      omega (arith, found.0),
      found.1,
      passes_one c.args.jhr.now c.args.at c.in_ok-end.end c.args.bits (all_bytes c.args.jhr.now (λ i. omega (arith, c.type_inv.jhr i))) found.0 (omega (arith, found.1, c.requires.within)) found.2 other,
    )
