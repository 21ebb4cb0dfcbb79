-- The rules of a part as one flat list: each is one test on the part's files, at one file and one record. The first that
-- is broken is named.
use Rattle.std.specs.Prelude.{◌≡◌, ℕ, zero, suc, ◌-◌, Bool, true, false, List, [], ◌∷◌, ◌++◌, map, drop, All}
use Rattle.jam_records.specs.declared.damage.Damage.{Damage}
use Rattle.damage_rules.specs.Rules.{Rules}

-- each rule in order, with its file and its record, and whether the files break it
abbrev pub Tests : Type 0
Tests = List (Damage × Bool)

-- the rules of one record
abbrev pub at_record : ℕ → ℕ → Rules → Tests
at_record file item rules = map (λ r. (record { file = file; item = item; rule = r.0 }, r.1)) rules

-- the tests of each item in order, by the items before it
abbrev pub for_each : {A : Type 0} → (List A → A → Tests) → List A → List A → Tests
for_each tests before [] = []
for_each tests before (x ∷ xs) = tests before x ++ for_each tests (before ++ x ∷ []) xs

-- so many records one after the other, each as the bytes from it on; `size` tells how long the first of them is
abbrev pub records : (List ℕ → ℕ) → ℕ → List ℕ → List (List ℕ)
records size zero bytes = []
records size (suc n) bytes = bytes ∷ records size n (drop (size bytes) bytes)

-- what stands behind them
abbrev pub behind_records : (List ℕ → ℕ) → ℕ → List ℕ → List ℕ
behind_records size zero bytes = bytes
behind_records size (suc n) bytes = behind_records size n (drop (size bytes) bytes)

-- the records up to the end of the bytes, of which the first `left` belong to the record before
abbrev pub records_from : (List ℕ → ℕ) → ℕ → List ℕ → List (List ℕ)
records_from size left [] = []
records_from size (suc left) (b ∷ bytes) = records_from size left bytes
records_from size zero (b ∷ bytes) = (b ∷ bytes) ∷ records_from size (size (b ∷ bytes) - 1) bytes

-- no rule is broken
abbrev pub AllHold : Tests → Type 0
AllHold tests = All (λ t. t.1 ≡ false) tests

-- This rule is broken, and each before it holds.
pub record IsFirstBroken (tests : Tests) (damage : Damage) : Type 0 where
  pub before : Tests
  pub behind : Tests
  pub whole : tests ≡ before ++ (damage, true) ∷ behind
  pub hold : AllHold before
