use Rattle.std.proofs.Common.{◌≡◌, drop, arith}
use Rattle.std.proofs.lemmas.Grind.{common_steps}
use Rattle.record_numbers.proofs.NumberLemmas.{all_bytes}
use Rattle.jam_records.proofs.SubfieldLemmas.{subfield_of_bytes}
use Rattle.jam_records.proofs.subfield_reader.subfield_of.Goals as goal

pub returns-clause-text : goal.returns-clause-text
returns-clause-text c =
    let value : c.in_ok-from_slice.field-0 ≡ drop 8 c.args.bytes.now = grind (arith, common_steps) in
    subfield_of_bytes _ _ _ _ (all_bytes c.args.bytes.now (λ i. omega (arith, c.type_inv.bytes i))) c.requires.whole c.requires.len c.u16_at.ensures c.u16_at-2.ensures value
