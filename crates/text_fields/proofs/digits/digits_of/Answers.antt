use Rattle.std.proofs.Common.{◌≡◌, ◌<◌, ◌+◌, ◌*◌, ℕ, length, take, get_or, subst, sym, arith, length-take}
use Rattle.std.specs.Char.{digit_value}
use Rattle.std.specs.Str.Parse.{digits_value}
use Rattle.std.proofs.lemmas.Int.Digits.{digits_more, digits_value_more}
use Rattle.text_fields.proofs.Numbers.{digit_below, value_small}
use Rattle.text_fields.proofs.digits.digits_of.Goals as goal

pub returns-in_default : goal.returns-in_default
returns-in_default c = λ n h. c.in_default.ensures.value (subst (λ (k : ℕ). digit_value k < 10) (sym c.from.ensures) (digit_below c.args.digits.now c.loop-digit.digit-index h.numeral.1 (omega arith)))

pub overflow_mul-n : goal.overflow_mul-n
overflow_mul-n c = omega (arith, value_small _ 18 c.loop-digit.invariant.decimal (omega (arith, length-take c.loop-digit.digit-index c.args.digits.now)), c.loop-digit.invariant.value)

pub overflow_add-n : goal.overflow_add-n
overflow_add-n c = omega (arith, value_small _ 18 c.loop-digit.invariant.decimal (omega (arith, length-take c.loop-digit.digit-index c.args.digits.now)), c.loop-digit.invariant.value, c.in-Some.ensures.value.0, c.in-Some.ensures.value.1, c.from-in-loop-digit.ensures)

pub loop-digit-preserved : goal.loop-digit-preserved
loop-digit-preserved c =
    let ds = c.args.digits.now in
    let i = c.loop-digit.digit-index in
    let lt : i < length ds = omega arith in
    let more : digits_value 10 (take (i + 1) ds) ≡ digits_value 10 (take i ds) * 10 + digit_value (get_or ds i 0) = digits_value_more 10 ds i lt in
    let small : digit_value (get_or ds i 0) < 10 = subst (λ (k : ℕ). digit_value k < 10) c.from.ensures c.in-Some.ensures.value.0 in
    let is : c.in-Some.value ≡ digit_value (get_or ds i 0) = subst (λ (k : ℕ). c.in-Some.value ≡ digit_value k) c.from.ensures c.in-Some.ensures.value.1 in
    record {
      decimal = digits_more 10 ds i lt c.loop-digit.invariant.decimal small;
      value = omega (arith, more, is, c.loop-digit.invariant.value, c.from-in-loop-digit.ensures);
    }
