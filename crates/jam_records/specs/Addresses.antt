-- Addresses as they are stored: `zone:net/node`, or `zone:net/node.point` where the point isn't 0.
use Rattle.std.specs.Prelude.{◌≡◌, ◌≤◌, ℕ, zero, suc, List, [], ◌∷◌, ◌++◌, true, false, decimal}
use Rattle.std.specs.Char.{is_ascii_digit}

-- the greatest number of an address
abbrev pub IsPart : ℕ → Type 0
IsPart n = n ≤ 32767

-- a digit's byte
abbrev pub IsDigit : ℕ → Type 0
IsDigit c = is_ascii_digit c ≡ true

-- nothing, or what doesn't begin with a digit
abbrev pub NoDigitFirst : List ℕ → Type 0
NoDigitFirst [] = Unit {0}
NoDigitFirst (c ∷ text) = is_ascii_digit c ≡ false

-- the text is the number, and then what doesn't go on with it
pub record NumberFirst (text : List ℕ) (n : ℕ) (rest : List ℕ) : Type 0 where
  pub small : IsPart n
  pub whole : text ≡ decimal n ++ rest
  pub ends : NoDigitFirst rest

-- a point, where it isn't 0
abbrev pub point_text : ℕ → List ℕ
point_text zero = []
point_text (suc point) = 46 ∷ decimal (suc point)

-- a node and a point
pub record IsNode (text : List ℕ) : Type 0 where
  pub node : ℕ
  pub point : ℕ
  pub small : IsPart node × IsPart point
  pub whole : text ≡ decimal node ++ point_text point

-- the text is an address
pub record IsAddress (text : List ℕ) : Type 0 where
  pub zone : ℕ
  pub net : ℕ
  pub node : ℕ
  pub point : ℕ
  pub small : IsPart zone × IsPart net × IsPart node × IsPart point
  pub whole : text ≡ decimal zone ++ (58 ∷ (decimal net ++ (47 ∷ (decimal node ++ point_text point))))
