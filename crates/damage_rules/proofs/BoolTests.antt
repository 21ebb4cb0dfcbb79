-- What it says that the tests of rules pass or fail.
use Rattle.std.proofs.Common.{◌≡◌, ℕ, Bool, true, false, not, ◌&&◌, ◌||◌, eqb, refl, ap}
use Rattle.std.proofs.lemmas.Bool.{eqb-true, eq-eqb}

pub or_false : (a b : Bool) → (a || b) ≡ false → (a ≡ false) × (b ≡ false)
or_false true b e = absurd cc
or_false false b e = (refl, e)

pub both_false : (a b : Bool) → a ≡ false → b ≡ false → (a || b) ≡ false
both_false true b e f = absurd cc
both_false false b e f = f

pub both_pass : (a b : Bool) → a ≡ true → b ≡ true → (a && b) ≡ true
both_pass true b e f = f
both_pass false b e f = absurd cc

pub not_not : (b : Bool) → not b ≡ false → b ≡ true
not_not true e = refl
not_not false e = absurd cc

-- numbers that are not unequal are equal
pub equal : (a b : ℕ) → not (eqb a b) ≡ false → a ≡ b
equal a b e = eqb-true a b (not_not (eqb a b) e)

pub unequal : (a b : ℕ) → a ≡ b → not (eqb a b) ≡ false
unequal a b e = ap not (eq-eqb a b e)

-- tests that pass under the same condition are the same
pub same_tests : (a b : Bool) → (a ≡ true → b ≡ true) → (b ≡ true → a ≡ true) → a ≡ b
same_tests true true f g = refl
same_tests true false f g = absurd (let e = f refl in cc)
same_tests false true f g = absurd (let e = g refl in cc)
same_tests false false f g = refl
