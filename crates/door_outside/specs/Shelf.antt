-- What a shelf holds, and what its calls do.
use Rattle.std.specs.Prelude.{◌≡◌, ◌⊎◌, ℕ, ◌-◌, ◌≤◌, nat_le, if◌then◌else◌, List, [], ◌++◌, length, take, drop, Option, Some, None, unwrap_or, Result, MatchResult}
use Rattle.std.specs.Cmp.Lexicographic.{slice_cmp}
use Rattle.std.specs.Ordering.{nat_cmp}
use Rattle.std.specs.FinMap as map
use Rattle.std.specs.List.{Contains}
use Rattle.door_outside.specs.declared.shelf.Piece.{Piece}
use Rattle.door_outside.specs.declared.shelf.Piece.TheVariants.{Missing, Count}
use Rattle.door_outside.specs.declared.fetch.Fetched.{Fetched}
use Rattle.door_outside.specs.declared.fetch.Fetched.TheVariants as fetch

-- the files by their names
abbrev pub ShelfFiles : Type 0
ShelfFiles = map.FinMap (slice_cmp nat_cmp) (List ℕ)

abbrev pub held : ShelfFiles → List ℕ → Option (List ℕ)
held files name = map.get files name

abbrev pub PieceWithin : ℕ → Piece → Type 0
PieceWithin room Missing = Unit {0}
PieceWithin room (Count n) = n ≤ room

-- So many bytes of a file from a place on, first in the buffer: no more than there is room for, and none only where there
-- is no room or the file ends there.
pub record IsPieceOf (file : List ℕ) (at : ℕ) (old new : List ℕ) (n : ℕ) : Type 0 where
  pub within : n ≤ length old
  pub there : n ≤ length file - at
  pub ends : n ≡ 0 → (length old ≡ 0) ⊎ (length file ≤ at)
  pub bytes : take n new ≡ take n (drop at file)

-- what a piece of a file is
abbrev pub PieceIs : Option (List ℕ) → ℕ → List ℕ → List ℕ → Piece → Type 0
PieceIs None at old new Missing = Unit {0}
PieceIs None at old new (Count n) = ⊥
PieceIs (Some file) at old new Missing = ⊥
PieceIs (Some file) at old new (Count n) = IsPieceOf file at old new n

-- the file is made empty, or left as it was
abbrev pub BeginsFile : {E : Type 0} → List ℕ → ShelfFiles → ShelfFiles → Result (Unit {0}) E → Type 0
BeginsFile name old new result = MatchResult result (λ _. new ≡ map.insert old name []) (λ _. (new ≡ old) ⊎ (new ≡ map.insert old name []))

-- the bytes are at its end, or some of them
abbrev pub Appends : {E : Type 0} → List ℕ → List ℕ → ShelfFiles → ShelfFiles → Result (Unit {0}) E → Type 0
Appends name bytes old new result =
    MatchResult result
    (λ _. new ≡ map.insert old name (unwrap_or (held old name) [] ++ bytes))
    (λ _. (new ≡ old) ⊎ ((count : ℕ) × (new ≡ map.insert old name (unwrap_or (held old name) [] ++ take count bytes))))

-- the files are as they were, but for these names
abbrev pub SameBut : List (List ℕ) → ShelfFiles → ShelfFiles → Type 0
SameBut names old new = (name : List ℕ) → ¬ Contains names name → held new name ≡ held old name

-- the whole of a file of at most so many bytes
abbrev pub fetched : ℕ → Option (List ℕ) → Fetched
fetched most None = fetch.Missing
fetched most (Some file) = if nat_le (length file) most then fetch.Whole file else fetch.TooLarge

-- what was fetched has at most so many bytes
abbrev pub FetchedWithin : ℕ → Fetched → Type 0
FetchedWithin most fetch.Missing = Unit {0}
FetchedWithin most fetch.TooLarge = Unit {0}
FetchedWithin most (fetch.Whole bytes) = length bytes ≤ most
