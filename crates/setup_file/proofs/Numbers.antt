-- The test of a number's digits, and what digits are.
use Rattle.std.proofs.Common.{◌≡◌, ℕ, ◌≤◌, ◌<◌, Bool, true, false, List, [], ◌∷◌, length, refl, arith}
use Rattle.std.proofs.lemmas.Bool.Decides.{nat_tests}
use Rattle.std.specs.Char.{is_digit}
use Rattle.std.specs.List.{list_all}
use Rattle.std.specs.Str.Parse.{AllDigits}
use Rattle.text_fields.specs.Number.{Digits}
use Rattle.text_fields.proofs.Numbers.{value_small}
use Rattle.setup_file.specs.Words.{is_number, number_of}

abbrev decimal_test : ℕ → Bool
decimal_test b = is_digit b 10

tested_digits : (ds : List ℕ) → list_all decimal_test ds ≡ true → AllDigits 10 ds
tested_digits [] e = tt
tested_digits (d ∷ ds) e = (grind (arith, nat_tests), tested_digits ds (grind (arith, nat_tests)))

digits_tested : (ds : List ℕ) → AllDigits 10 ds → list_all decimal_test ds ≡ true
digits_tested [] h = refl
digits_tested (d ∷ ds) h = let rest : list_all decimal_test ds ≡ true = digits_tested ds h.1 in grind (arith, nat_tests)

-- 1 to 5 digits pass the test
pub number_is : (word : List ℕ) (n : ℕ) → Digits word n → length word ≤ 5 → is_number word ≡ true
unfolding is_number
number_is word n x short =
    let digits : list_all decimal_test word ≡ true = digits_tested word x.numeral.1 in
    let some : 0 < length word = x.numeral.0 in
    grind (arith, nat_tests)

pub number_value : (word : List ℕ) (n : ℕ) → Digits word n → n ≡ number_of word
unfolding number_of
number_value word n x = x.value

record Tested (word : List ℕ) : Type 0 where
  some : 0 < length word
  short : length word ≤ 5
  digits : list_all decimal_test word ≡ true

tested : (word : List ℕ) → is_number word ≡ true → Tested word
unfolding is_number
tested word e = record { some = grind (arith, nat_tests); short = grind (arith, nat_tests); digits = grind (arith, nat_tests) }

-- what passes is 1 to 5 digits
pub number_digits : (word : List ℕ) → is_number word ≡ true → Digits word (number_of word)
unfolding number_of
number_digits word e = let t = tested word e in record { numeral = (t.some, tested_digits word t.digits); value = refl }

pub number_short : (word : List ℕ) → is_number word ≡ true → length word ≤ 5
number_short word e = (tested word e).short

-- what isn't digits doesn't pass
pub no_number : (word : List ℕ) → ((n : ℕ) → Digits word n → ⊥) → is_number word ≡ false
no_number word none = elim (is_number word) as (λ b. is_number word ≡ b → b ≡ false) [
  | true ↦ λ e. absurd (none (number_of word) (number_digits word e))
  | false ↦ λ e. refl
] refl

-- and what is too long doesn't
pub too_long : (word : List ℕ) → 5 < length word → is_number word ≡ false
unfolding is_number
too_long word long = grind (arith, nat_tests)

-- 5 digits have a value below 100,000
pub number_small : (word : List ℕ) (n : ℕ) → Digits word n → length word ≤ 5 → n < 100000
number_small word n x short = rw x.value (value_small word 5 x.numeral.1 short)

pub number_at_most : (word : List ℕ) → is_number word ≡ true → number_of word ≤ 99999
number_at_most word e = omega (arith, number_small word (number_of word) (number_digits word e) (number_short word e))
