-- Lines that are taken one by one.
use Rattle.std.proofs.Common.{◌≡◌, ℕ, nat_eq, ◌<◌, ◌≤◌, ◌^◌, List, [], ◌∷◌, ◌++◌, length, length-append, refl, sym, ap, ◌∙◌, arith, append_assoc}
use Rattle.std.proofs.lemmas.Bool.Decides.{nat_tests}
use Rattle.std.proofs.lemmas.List.Splits.{length-slice_split}
use Rattle.std.proofs.lemmas.List.Sums.{count_by-le-length}
use Rattle.std.specs.List.{slice_split}
use Rattle.std.specs.Str.Lines.{lines, lines_of_parts}
use Rattle.text_fields.specs.Numbered.{IsNumbered, Ahead}

-- a text has not many more lines than bytes
parts_length : (parts : List (List ℕ)) → length (lines_of_parts parts) ≤ length parts
parts_length [] = omega arith
parts_length (x ∷ []) = grind (arith, nat_tests)
parts_length (x ∷ y ∷ more) = omega (arith, parts_length (y ∷ more))

pub lines_numbered : (bytes : List ℕ) → length bytes < 2 ^ 31 → IsNumbered (lines bytes) 1
lines_numbered bytes few = omega (arith, parts_length (slice_split (λ b. nat_eq b 10) bytes), length-slice_split (λ b. nat_eq b 10) bytes, count_by-le-length (λ b. nat_eq b 10) bytes)

-- lines that are taken
pub none_taken : (all : List (List ℕ)) (number : ℕ) → Ahead all number all number []
none_taken all number = record { whole = refl; count = omega arith }

pub more_taken : (all left after taken more : List (List ℕ)) (number at next : ℕ) → Ahead all number left at taken → Ahead left at after next more → Ahead all number after next (taken ++ more)
more_taken all left after taken more number at next x y = record {
  whole = x.whole ∙ (ap (λ r. taken ++ r) y.whole ∙ sym (append_assoc taken more after));
  count = omega (arith, x.count, y.count, length-append taken more);
}

pub left_numbered : (all left taken : List (List ℕ)) (number at : ℕ) → IsNumbered all number → Ahead all number left at taken → IsNumbered left at
left_numbered all left taken number at fits x = omega (arith, fits, x.count, ap length x.whole, length-append taken left)

-- two splits of the same lines
pub longer : (f g r s : List (List ℕ)) → f ++ r ≡ g ++ s → length f < length g → (line : List ℕ) × (more : List (List ℕ)) × (g ≡ f ++ line ∷ more) × (r ≡ line ∷ (more ++ s))
longer [] [] r s e lt = absurd (omega arith)
longer [] (y ∷ g) r s e lt = (y, g, refl, e)
longer (x ∷ f) [] r s e lt = absurd (omega arith)
longer (x ∷ f) (y ∷ g) r s e lt =
    let first : x ≡ y = cc in
    let others : f ++ r ≡ g ++ s = cc in
    let l : (line : List ℕ) × (more : List (List ℕ)) × (g ≡ f ++ line ∷ more) × (r ≡ line ∷ (more ++ s)) = longer f g r s others (omega arith) in
    let rest : g ≡ f ++ l.0 ∷ l.1 = l.2 in
    let whole : y ∷ g ≡ x ∷ (f ++ l.0 ∷ l.1) = cc in
    (l.0, l.1, whole, l.3)
