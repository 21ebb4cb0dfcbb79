use Rattle.std.proofs.Common.{ap, arith}
use Rattle.std.proofs.lemmas.List.Sums.{sum_by_more}
use Rattle.board_layout.specs.Layout.{base_size}
use Rattle.board_layout.proofs.parts.bases_fit.Goals as goal

pub loop-base-preserved : goal.loop-base-preserved
loop-base-preserved c =
    let more = sum_by_more base_size c.args.bases.now c.loop-base.base-index c.base-item.result c.loop-base-test.true in
    omega (arith, more, c.loop-base.invariant, c.size-size.ensures, ap base_size c.base-item.is, c.if-left-size.false)
