-- Places of pieces that stand one after the other.
use Rattle.std.specs.Prelude.{ℕ, ◌+◌, List, [], ◌∷◌}

-- where the piece of each item stands, the first at a place, and where the last ends
abbrev pub places_from : {X : Type 0} → (X → ℕ) → ℕ → List X → List ℕ
places_from size at [] = at ∷ []
places_from size at (x ∷ xs) = at ∷ places_from size (at + size x) xs
