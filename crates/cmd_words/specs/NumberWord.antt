-- Words that are numbers.
use Rattle.std.specs.Prelude.{ℕ, ◌<◌, ◌≤◌, ◌^◌, List, length, ◌==◌}
use Rattle.std.specs.List.{AllZip, slice_split}
use Rattle.text_fields.specs.Number.{Digits}

-- 1 to 10 digits of a value of at most 4,294,967,295
pub record NumberWord (word : List ℕ) (n : ℕ) : Type 0 where
  pub digits : Digits word n
  pub short : length word ≤ 10
  pub small : n < 2 ^ 32

-- number words joined by commas
abbrev pub JoinedNumbers : List ℕ → List ℕ → Type 0
JoinedNumbers text numbers = AllZip NumberWord (slice_split (λ b. b == 0x2C) text) numbers
