use Rattle.std.proofs.Common.{ℕ, ◌-◌, length, sym, subst, ap, ◌∙◌, arith}
use Rattle.std.proofs.lemmas.List.{length_push}
use Rattle.jam_adopt.specs.Leaps.{IsLeap}
use Rattle.jam_adopt.proofs.LeapLaws.{leap_added}
use Rattle.jam_adopt.proofs.leaps.Leaps.of.Goals as goal

pub loop-behind-preserved : goal.loop-behind-preserved
loop-behind-preserved c =
    let is = subst (λ (n : ℕ). IsLeap c.args.jhr.now (length c.args.jhr.now - n) c.leap_before-leap.result) (sym c.loop-behind.invariant.count) c.leap_before-leap.ensures in
    record {
      each = leap_added c.args.jhr.now c.loop-behind.leaps.from_end.items _ c.leap_before-leap.result c.loop-behind.invariant.each is c.in_ok-push.ensures.items;
      count = ap length c.in_ok-push.ensures.items ∙ (length_push c.loop-behind.leaps.from_end.items _ ∙ omega (arith, c.loop-behind.invariant.count));
    }
