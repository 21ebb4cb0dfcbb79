use Rattle.std.proofs.Common.{arith, ap, sym, length}
use Rattle.std.proofs.lemmas.Bool.{true≢false}
use Rattle.offline_writer.proofs.Texts.{too_long}
use Rattle.offline_writer.proofs.fitting.are_short.Goals as goal

pub returns-then-size-left : goal.returns-then-size-left
returns-then-size-left c = (
  λ never. absurd (true≢false (sym never)),
  λ fits.
      absurd (too_long c.args.lines.now c.as_slice-line-items.result.now c.loop-line.line-index c.loop-line.left c.args.most c.line-item.result c.loop-line.invariant.all (omega arith) c.line-item.is
      c.loop-line.invariant.left (omega (arith, ap length c.as_slice-size.ensures.same)) fits),
)
