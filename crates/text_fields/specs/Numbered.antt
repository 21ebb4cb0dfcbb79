-- Lines with their numbers, as a reader goes over them.
use Rattle.std.specs.Prelude.{◌≡◌, ◌<◌, ◌+◌, ◌^◌, ℕ, List, ◌++◌, length}

-- the lines have numbers of 32 bits, one past the last too
abbrev pub IsNumbered : List (List ℕ) → ℕ → Type 0
IsNumbered all number = number + length all < 2 ^ 32

-- these lines were taken from the first, and the others are left; each with the number of its first line
pub record Ahead (all : List (List ℕ)) (number : ℕ) (left : List (List ℕ)) (at : ℕ) (taken : List (List ℕ)) : Type 0 where
  pub whole : all ≡ taken ++ left
  pub count : at ≡ number + length taken
