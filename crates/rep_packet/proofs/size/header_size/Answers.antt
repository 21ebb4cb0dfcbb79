use Rattle.std.proofs.Common.{ℕ, ◌-◌, ◌^◌, List, length, min, ap, ◌∙◌, arith}
use Rattle.qwk_blocks.specs.Written.{padded}
use Rattle.rep_packet.proofs.Sizes.{min_of_sum, header_length}
use Rattle.rep_packet.proofs.size.header_size.Goals as goal

-- one part after another
pub returns : goal.returns
returns c =
    let h = c.args.header.now in
    let e2 = min_of_sum _ _ _ _ _ c.saturating_add.ensures c.saturating_add-2.ensures in
    let e3 = min_of_sum _ _ _ _ _ e2 c.saturating_add-3.ensures in
    let e4 = min_of_sum _ _ _ _ _ e3 c.saturating_add-4.ensures in
    let e5 = min_of_sum _ _ _ _ _ e4 c.saturating_add-5.ensures in
    let e6 = min_of_sum _ _ _ _ _ e5 c.saturating_add-6.ensures in
    let e7 = min_of_sum _ _ _ _ _ e6 c.saturating_add-7.ensures in
    let e8 = min_of_sum _ _ _ _ _ e7 c.saturating_add-8.ensures in
    let width = λ (w : ℕ) (t : List ℕ). length (padded w t) in
    e8 ∙ ap (λ n. min n (2 ^ 64 - 1)) (omega (
      arith,
      header_length h c.args.count,
      c.moment_size.ensures,
      c.optional_size.ensures,
      c.field_size.ensures ∙ ap (width 25) c.as_slice.ensures.same,
      c.field_size-2.ensures ∙ ap (width 25) c.as_slice-2.ensures.same,
      c.field_size-3.ensures ∙ ap (width 25) c.as_slice-3.ensures.same,
      c.field_size-4.ensures ∙ ap (width 12) c.as_slice-4.ensures.same,
      c.optional_size-2.ensures,
      c.number_size.ensures,
    ))
