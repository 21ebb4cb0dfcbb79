-- Lines of words.
use Rattle.std.specs.Prelude.{◌≡◌, ◌≢◌, ◌⊎◌, ℕ, List, [], ◌∷◌, ◌++◌, All}
use Rattle.text_fields.specs.Split.{Lacks}
use Rattle.text_fields.specs.Trim.{BeginsWithNone}

-- all bytes are spaces
abbrev pub AreSpaces : List ℕ → Type 0
AreSpaces bytes = All (λ b. b ≡ 32) bytes

-- behind a word stands nothing, or a space
abbrev pub EndsWord : List ℕ → Type 0
EndsWord [] = Unit {0}
EndsWord (b ∷ rest) = b ≡ 32

-- one byte or more, none of them a space, of which the first is no quote
pub record IsBare (text : List ℕ) : Type 0 where
  pub some : text ≢ []
  pub whole : Lacks 32 text
  pub unquoted : (rest : List ℕ) → text ≢ 34 ∷ rest

-- behind an opening quote: the word, which has no quote, the closing quote, and the rest
pub record BeginsQuoted (text word rest : List ℕ) : Type 0 where
  pub whole : text ≡ word ++ 34 ∷ rest
  pub inside : Lacks 34 word
  pub ends : EndsWord rest

pub record BeginsBare (text word rest : List ℕ) : Type 0 where
  pub whole : text ≡ word ++ rest
  pub bare : IsBare word
  pub ends : EndsWord rest

-- a line begins with a word, bare or in quotes, and this is the rest
abbrev pub Begins : List ℕ → List ℕ → List ℕ → Type 0
Begins text word rest = BeginsBare text word rest ⊎ ((behind : List ℕ) × (text ≡ 34 ∷ behind) × BeginsQuoted behind word rest)

-- the line without the spaces at its front
pub record SkipsSpaces (line rest : List ℕ) : Type 0 where
  pub spaces : List ℕ
  pub whole : line ≡ spaces ++ rest
  pub blank : AreSpaces spaces
  pub begins : BeginsWithNone (λ b. b ≡ 32) rest

-- The line is, for each word in order, spaces, which may be none, and the word, behind which the line ends or a space
-- stands; and at the end some spaces.
abbrev pub LineReads : List ℕ → List (List ℕ) → Type 0
LineReads line [] = AreSpaces line
LineReads line (word ∷ words) =
    (spaces text rest : List ℕ) × (line ≡ spaces ++ text) × AreSpaces spaces × Begins text word rest × LineReads rest words
