-- The grammar of shelf names.
use Rattle.std.specs.Prelude.{◌≢◌, ◌⊎◌, ℕ, ◌≤◌, ◌==◌, ◌≡◌, List, length, slice_index, All}
use Rattle.std.specs.List.{slice_split}

-- digits, letters, and `.`, `_` and `-`
abbrev pub IsNameByte : ℕ → Type 0
IsNameByte b = ((48 ≤ b) × (b ≤ 57)) ⊎ ((65 ≤ b) × (b ≤ 90)) ⊎ ((97 ≤ b) × (b ≤ 122)) ⊎ (b ≡ 46) ⊎ (b ≡ 95) ⊎ (b ≡ 45)

-- 1 to 32 such bytes, of which the first is no `.`
pub record IsNamePart (part : List ℕ) : Type 0 where
  pub some : 1 ≤ length part
  pub short : length part ≤ 32
  pub allowed : All IsNameByte part
  pub visible : slice_index part 0 ≢ 46

-- what stands between the `/` of a text
abbrev pub parts : List ℕ → List (List ℕ)
parts text = slice_split (λ b. b == 47) text

-- so many parts at most, joined by `/`
pub record HasParts (most : ℕ) (text : List ℕ) : Type 0 where
  pub few : length (parts text) ≤ most
  pub each : All IsNamePart (parts text)

abbrev pub IsShelfName : List ℕ → Type 0
IsShelfName text = HasParts 4 text
