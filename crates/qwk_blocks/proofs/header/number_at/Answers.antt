use Rattle.std.proofs.Common.{◌≡◌, ℕ, ◌+◌, ◌-◌, take, drop, sym, subst, arith}
use Rattle.std.proofs.Math.Nat.{pow-le-pow_right}
use Rattle.text_fields.specs.Number.{Number}
use Rattle.text_fields.proofs.Numbers.{number_small}
use Rattle.qwk_blocks.specs.Header.{IsPad}
use Rattle.qwk_blocks.proofs.header.number_at.Goals as goal

pub overflow_cast-result : goal.overflow_cast-result
overflow_cast-result c = omega (arith, number_small IsPad c.args.width _ c.in-Some.number c.in-Some.ensures, pow-le-pow_right {n = 10} (omega arith) {i = c.args.width} {j = 9} c.requires.narrow)

pub returns-in-None : goal.returns-in-None
returns-in-None c =
    let from : ℕ = c.args.place - 1 in
    let e : from + c.args.width - from ≡ c.args.width = omega arith in
    λ n x. c.in-None.ensures n (subst (λ (k : ℕ). Number IsPad c.args.width (take k (drop from c.args.block.now)) n) (sym e) x)
