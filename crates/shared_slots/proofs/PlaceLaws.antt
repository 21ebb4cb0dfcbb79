-- Where pieces stand that lie one after the other.
use Rattle.std.proofs.Common.{◌≡◌, ℕ, zero, suc, ◌+◌, ◌<◌, ◌≤◌, List, [], ◌∷◌, ◌++◌, length, take, get_or, refl, ap, ◌∙◌, arith}
use Rattle.std.specs.Prelude.{sum_by}
use Rattle.std.proofs.Math.ListN.{set}
use Rattle.std.proofs.lemmas.List.Sums.{sum_by-cons}
use Rattle.shared_slots.specs.PlacesFrom.{places_from}

pub places_length : {X : Type 0} (size : X → ℕ) (at : ℕ) (xs : List X) → length (places_from size at xs) ≡ suc (length xs)
places_length size at [] = refl
places_length size at (x ∷ xs) = ap suc (places_length size (at + size x) xs)

pub place_at : {X : Type 0} (size : X → ℕ) (at : ℕ) (xs : List X) (i d : ℕ) → i ≤ length xs → get_or (places_from size at xs) i d ≡ at + sum_by size (take i xs)
place_at size at [] zero d within = omega arith
place_at size at [] (suc i) d within = absurd (omega (arith, within))
place_at size at (x ∷ xs) zero d within = omega arith
place_at size at (x ∷ xs) (suc i) d within = omega (arith, place_at size (at + size x) xs i d (omega (arith, within)), sum_by-cons size x (take i xs))

pub places_more : {X : Type 0} (size : X → ℕ) (at : ℕ) (xs : List X) (x : X) → places_from size at (xs ++ x ∷ []) ≡ places_from size at xs ++ (at + (sum_by size xs + size x)) ∷ []
places_more size at [] x = let e : at + size x ≡ at + (0 + size x) = omega arith in ap (λ (n : ℕ). at ∷ n ∷ []) e
places_more size at (y ∷ xs) x =
    let e : (at + size y) + (sum_by size xs + size x) ≡ at + (sum_by size (y ∷ xs) + size x) = omega (arith, sum_by-cons size y xs) in
    ap (λ (ps : List ℕ). at ∷ ps) (places_more size (at + size y) xs x ∙ ap (λ (n : ℕ). places_from size (at + size y) xs ++ n ∷ []) e)

pub places_set : {X : Type 0} (size : X → ℕ) (at : ℕ) (xs : List X) (i : ℕ) (y d : X) → i < length xs → size y ≡ size (get_or xs i d) → places_from size at (set xs i y) ≡ places_from size at xs
places_set size at [] i y d within same = refl
places_set size at (x ∷ xs) zero y d within same = ap (λ (n : ℕ). at ∷ places_from size (at + n) xs) same
places_set size at (x ∷ xs) (suc i) y d within same = ap (λ (ps : List ℕ). at ∷ ps) (places_set size (at + size x) xs i y d (omega (arith, within)) same)

-- no front of a list has more than all
pub sum_front : {X : Type 0} (size : X → ℕ) (xs : List X) (i : ℕ) → sum_by size (take i xs) ≤ sum_by size xs
sum_front size [] zero = omega arith
sum_front size [] (suc i) = omega arith
sum_front size (x ∷ xs) zero = omega arith
sum_front size (x ∷ xs) (suc i) = omega (arith, sum_front size xs i, sum_by-cons size x xs, sum_by-cons size x (take i xs))
