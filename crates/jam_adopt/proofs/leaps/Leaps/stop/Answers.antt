use Rattle.std.proofs.Common.{arith}
use Rattle.jam_adopt.proofs.LeapLaws.{passes_none, passes_both}
use Rattle.jam_adopt.proofs.leaps.Leaps.stop.Goals as goal

pub loop-at-init : goal.loop-at-init
loop-at-init c = record {
  passed = passes_none c.args.jhr.now c.args.bits c.args.from (omega (arith, c.requires.rising, c.requires.within));
  within = c.requires.rising;
}

pub loop-at-preserved : goal.loop-at-preserved
loop-at-preserved c = record {
  passed = passes_both c.args.jhr.now c.args.bits c.args.from c.loop-at.at c.in-Some.next c.loop-at.invariant.passed c.in-Some.ensures.2;
  within = c.in-Some.ensures.1;
}
