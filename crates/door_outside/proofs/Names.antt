-- The parts of a name that is joined to another.
use Rattle.std.proofs.Common.{◌≡◌, ℕ, ◌≤◌, Bool, true, false, cond, eqb, List, [], ◌∷◌, ◌++◌, length, All, refl, sym, ◌∙◌, ap, subst, arith, length-append}
use Rattle.std.specs.List.{slice_split, onto_first}
use Rattle.std.proofs.lemmas.Bool.{ne_eqb}
use Rattle.std.proofs.lemmas.List.Elements.{All-append, All-nil, All-cons}
use Rattle.std.proofs.lemmas.List.Splits.{slice_split_none, length-slice_split}
use Rattle.door_outside.specs.Name.{IsNameByte, IsNamePart, parts, HasParts}

onto_first-append : (x : ℕ) (a b : List (List ℕ)) → 1 ≤ length a → onto_first x (a ++ b) ≡ onto_first x a ++ b
onto_first-append x [] b some = absurd (omega (arith, some))
onto_first-append x (part ∷ a) b some = refl

-- the parts of two texts joined at a byte that splits
slice_split-joined : (p : ℕ → Bool) (y : ℕ) → p y ≡ true → (xs ys : List ℕ) → slice_split p (xs ++ y ∷ ys) ≡ slice_split p xs ++ slice_split p ys
slice_split-joined p y splits [] ys = ap (λ (b : Bool). cond b ([] ∷ slice_split p ys) (onto_first y (slice_split p ys))) splits
slice_split-joined p y splits (x ∷ xs) ys =
    ap (λ (l : List (List ℕ)). cond (p x) ([] ∷ l) (onto_first x l)) (slice_split-joined p y splits xs ys)
    ∙ by_case (p x)
  where
    by_case : (b : Bool) → cond b ([] ∷ (slice_split p xs ++ slice_split p ys)) (onto_first x (slice_split p xs ++ slice_split p ys)) ≡ cond b ([] ∷ slice_split p xs) (onto_first x (slice_split p xs)) ++ slice_split p ys
    by_case true = refl
    by_case false = onto_first-append x (slice_split p xs) (slice_split p ys) (omega (arith, length-slice_split p xs))

-- no byte of a name splits it
unsplit : (b : ℕ) → IsNameByte b → eqb b 47 ≡ false
unsplit b allowed = ne_eqb b 47 (λ slash. by_kind (subst IsNameByte slash allowed))
  where
    by_kind : IsNameByte 47 → ⊥
    by_kind kind = omega (arith, kind)

pub file_named : (folder part : List ℕ) → HasParts 3 folder → IsNamePart part → HasParts 4 (folder ++ 47 ∷ part)
file_named folder part named is_part = record {
  few = omega (arith, ap length split, length-append (parts folder) (part ∷ []), named.few);
  each = subst (All IsNamePart) (sym split) (All-append IsNamePart (parts folder) (part ∷ []) named.each (All-cons IsNamePart part [] is_part (All-nil IsNamePart)));
}
  where
    split : parts (folder ++ 47 ∷ part) ≡ parts folder ++ part ∷ []
    split = slice_split-joined (λ b. eqb b 47) 47 refl folder part ∙ ap (λ (l : List (List ℕ)). parts folder ++ l) (slice_split_none (λ b. eqb b 47) part (λ k d below. unsplit _ (is_part.allowed k d below)))
