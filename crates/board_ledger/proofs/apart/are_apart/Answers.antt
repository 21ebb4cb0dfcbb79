use Rattle.std.proofs.Common.{◌≡◌, ℕ, ◌<◌, Bool, true, false, eqb, List, get_or, refl, subst, arith}
use Rattle.std.specs.Bool.{OnTrue}
use Rattle.std.specs.List.{IsDistinct}
use Rattle.std.specs.List.Sorted.{IsPermutation, IsStrictlyIncreasing}
use Rattle.std.specs.Cmp.{nat_eq_equiv}
use Rattle.std.proofs.lemmas.Bool.Decides.{nat_tests}
use Rattle.std.proofs.lemmas.List.Sorted.{IsPermutation-sym}
use Rattle.std.proofs.lemmas.Map.Keys.{IsDistinct-IsPermutation, IsDistinct-from_apart, below_from_sorted, sorted_from_strictly_increasing}
use Rattle.board_ledger.proofs.apart.are_apart.Goals as goal

unequal : (x y : ℕ) → x < y → eqb x y ≡ false
unequal x y lt = grind (arith, nat_tests)

-- numbers that rise once they are put in another order differ
distinct_rising : (xs ys : List ℕ) → IsPermutation xs ys → IsStrictlyIncreasing ys → IsDistinct eqb xs
distinct_rising xs ys moved rising =
    IsDistinct-IsPermutation eqb (λ x y. nat_eq_equiv.symm x y) ys xs (IsPermutation-sym xs ys moved)
    (IsDistinct-from_apart eqb ys (λ i j d before within. unequal (get_or ys i d) (get_or ys j d) (below_from_sorted ys i j d (sorted_from_strictly_increasing ys rising) before within)))

where_true : (b : Bool) (xs ys : List ℕ) → (IsStrictlyIncreasing ys → IsDistinct eqb xs) → OnTrue b (IsStrictlyIncreasing ys) → OnTrue b (IsDistinct eqb xs)
where_true true xs ys f rising = f rising
where_true false xs ys f rising = tt

pub returns : goal.returns
returns c =
    where_true c.rise.result c.args.numbers.now.items c.sort_unstable.new.self.items (distinct_rising c.args.numbers.now.items c.sort_unstable.new.self.items c.sort_unstable.ensures.permutation)
    (subst (λ (ys : List ℕ). OnTrue c.rise.result (IsStrictlyIncreasing ys)) c.as_slice.ensures.value c.rise.ensures)
