-- A field without the blanks at its ends. P says of a byte that it is a blank.
use Rattle.std.specs.Prelude.{◌≡◌, ℕ, List, [], ◌∷◌, ◌++◌, All}

-- the text doesn't begin with a blank
abbrev pub BeginsWithNone : (ℕ → Type 0) → List ℕ → Type 0
BeginsWithNone P text = (first : ℕ) (rest : List ℕ) → text ≡ first ∷ rest → ¬ P first

-- the text doesn't end with a blank
abbrev pub EndsWithNone : (ℕ → Type 0) → List ℕ → Type 0
EndsWithNone P text = (front : List ℕ) (last : ℕ) → text ≡ front ++ last ∷ [] → ¬ P last

-- The field is the text, then blanks.
pub record TrimmedEnd (P : ℕ → Type 0) (field text : List ℕ) : Type 0 where
  pub pad : List ℕ
  pub whole : field ≡ text ++ pad
  pub blank : All P pad
  pub ends : EndsWithNone P text

-- The field is blanks, then the text, then blanks.
pub record Trimmed (P : ℕ → Type 0) (field text : List ℕ) : Type 0 where
  pub before : List ℕ
  pub after : List ℕ
  pub whole : field ≡ before ++ text ++ after
  pub blank_before : All P before
  pub blank_after : All P after
  pub begins : BeginsWithNone P text
  pub ends : EndsWithNone P text
