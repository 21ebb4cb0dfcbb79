use Rattle.std.proofs.Common.{◌<◌, ◌^◌, length, get_or, sym, ap, ◌∙◌, subst, arith}
use Rattle.jam_records.specs.declared.subfield.Subfield.{Subfield}
use Rattle.jam_records.proofs.SubfieldLemmas.{one_fits}
use Rattle.jam_records.proofs.subfield.write_subfields.Goals as goal

pub add_subfield-requires : goal.add_subfield-requires
add_subfield-requires c =
    let i = c.loop-subfield.subfield-index in
    let item = c.subfield-item.is ∙ ap (λ subfields. get_or subfields i c.subfield-item.result) c.as_slice-subfield-items.ensures in
    let fits : length c.subfield-item.result.value < 2 ^ 31 = subst (λ (s : Subfield). length s.value < 2 ^ 31) (sym item) (one_fits c.args.value.now i _ (omega (arith, ap length c.as_slice-subfield-items.ensures)) c.requires) in
    omega (arith, ap length c.as_slice.ensures.same, fits)
