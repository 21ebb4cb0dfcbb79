-- Keys that were met of a list, and of the list with one item more.
use Rattle.std.proofs.Common.{◌≡◌, ◌||◌, Bool, true, false, List, [], ◌∷◌, ◌++◌, refl, sym, ◌∙◌}
use Rattle.std.specs.List.{list_any}
use Rattle.std.proofs.lemmas.List.Folds.{list_any-append}

swap : (a b : Bool) → (a || b) ≡ (b || (a || false))
swap true true = refl
swap true false = refl
swap false true = refl
swap false false = refl

pub met_more : {A : Type 0} (p : A → Bool) (xs : List A) (x : A) → (p x || list_any p xs) ≡ list_any p (xs ++ x ∷ [])
met_more p xs x = swap (p x) (list_any p xs) ∙ sym (list_any-append p xs (x ∷ []))
