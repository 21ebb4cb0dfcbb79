-- Numbers as decimal digits.
use Rattle.std.specs.Prelude.{◌≡◌, ℕ, ◌≤◌, List, length}
use Rattle.std.specs.Str.Parse.{IsNumeral, digits_value}
use Rattle.text_fields.specs.Trim.{Trimmed}

-- The text is one or more decimal digits of the value n.
pub record Digits (text : List ℕ) (n : ℕ) : Type 0 where
  pub numeral : IsNumeral 10 text
  pub value : n ≡ digits_value 10 text

-- The field is, without the blanks at its ends, one or more digits of the value n, and of these at most so many.
pub record Number (P : ℕ → Type 0) (most : ℕ) (field : List ℕ) (n : ℕ) : Type 0 where
  pub text : List ℕ
  pub trimmed : Trimmed P field text
  pub short : length text ≤ most
  pub digits : Digits text n
