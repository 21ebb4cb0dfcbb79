-- Items with their places.
use Rattle.std.proofs.Common.{◌≡◌, ℕ, ◌+◌, ◌<◌, List, [], ◌∷◌, ◌++◌, length, take, get_or, sym, ◌∙◌, ap, arith, add-zero, length-take}
use Rattle.std.proofs.lemmas.List.{take_more, append-nil}
use Rattle.std.proofs.lemmas.Grind.{flat_map-append}
use Rattle.std.specs.List.{flat_map, enumerate_from}

enumerate_from-append : {X : Type 0} (n : ℕ) (xs ys : List X) → enumerate_from n (xs ++ ys) ≡ enumerate_from n xs ++ enumerate_from (n + length xs) ys
enumerate_from-append n [] ys = ap (λ k. enumerate_from k ys) (sym (add-zero n))
enumerate_from-append n (x ∷ xs) ys =
    let shift : n + 1 + length xs ≡ n + length (x ∷ xs) = omega arith in
    ap (λ l. (n, x) ∷ l) (enumerate_from-append (n + 1) xs ys ∙ ap (λ k. enumerate_from (n + 1) xs ++ enumerate_from k ys) shift)

-- the text of one item more
pub flat_map-place_more : {X : Type 0} (text : ℕ × X → List ℕ) (xs : List X) (i : ℕ) (x : X) → i < length xs → x ≡ get_or xs i x
    → flat_map text (enumerate_from 1 (take (i + 1) xs)) ≡ flat_map text (enumerate_from 1 (take i xs)) ++ text (i + 1, x)
flat_map-place_more {X} text xs i x within is =
    ap (λ l. flat_map text (enumerate_from 1 l)) (take_more xs i x within ∙ ap (λ y. take i xs ++ y ∷ []) (sym is))
    ∙ ap (flat_map text) (enumerate_from-append 1 (take i xs) (x ∷ []))
    ∙ flat_map-append text (enumerate_from 1 (take i xs)) ((1 + length (take i xs), x) ∷ [])
    ∙ ap (λ k. flat_map text (enumerate_from 1 (take i xs)) ++ (text (k, x) ++ [])) place
    ∙ ap (λ l. flat_map text (enumerate_from 1 (take i xs)) ++ l) (append-nil (text (i + 1, x)))
  where
    place : 1 + length (take i xs) ≡ i + 1
    place = omega (arith, length-take i xs)
