-- Numbers at the front of a text.
use Rattle.std.proofs.Common.{◌≡◌, ℕ, zero, suc, ◌^◌, ◌<◌, List, [], ◌∷◌, ◌++◌, length, get_or, true, false, refl, sym, ◌∙◌, arith, subst}
use Rattle.std.specs.Prelude.{All, decimal}
use Rattle.std.specs.Char.{is_ascii_digit, digit_value}
use Rattle.std.specs.Str.{IsUtf8}
use Rattle.std.specs.Str.Parse.{AllDigits}
use Rattle.std.proofs.lemmas.Bool.Decides.{nat_tests}
use Rattle.std.proofs.lemmas.Str.{IsUtf8-from_ascii}
use Rattle.std.proofs.lemmas.Fmt.{IsAscii-decimal, decimal_is_IsNumeral}
use Rattle.std.proofs.lemmas.Str.Parse.{digit_from_value}
use Rattle.jam_records.specs.Addresses.{IsDigit, IsPart, NoDigitFirst, NumberFirst}

pub utf8_decimal : (n : ℕ) → n < 2 ^ 64 → IsUtf8 (decimal n)
utf8_decimal n small = IsUtf8-from_ascii (decimal n) (IsAscii-decimal n small)

digit_is : (c : ℕ) → digit_value c < 10 → IsDigit c
digit_is c small = let within = digit_from_value c small in grind (arith, nat_tests)

all_cons : (c : ℕ) (cs : List ℕ) → IsDigit c → All IsDigit cs → (k d : ℕ) → k < length (c ∷ cs) → IsDigit (get_or (c ∷ cs) k d)
all_cons c cs first others zero d within = first
all_cons c cs first others (suc k) d within = others k d (omega arith)

digits_are : (ds : List ℕ) → AllDigits 10 ds → All IsDigit ds
digits_are [] all = λ k d within. absurd (omega arith)
digits_are (c ∷ cs) all = all_cons c cs (digit_is c all.0) (digits_are cs all.1)

pub digits_of_decimal : (n : ℕ) → IsPart n → All IsDigit (decimal n)
digits_of_decimal n small = digits_are (decimal n) (decimal_is_IsNumeral n (omega arith)).0.1

record SameSplit (ds es r t : List ℕ) : Type 0 where
  digits : ds ≡ es
  rest : r ≡ t

same_split : (ds es r t : List ℕ) → All IsDigit ds → All IsDigit es → NoDigitFirst r → NoDigitFirst t → ds ++ r ≡ es ++ t → SameSplit ds es r t
same_split [] [] r t all_ds all_es ends_r ends_t same = record { digits = refl; rest = same }
same_split [] (e ∷ es) r t all_ds all_es ends_r ends_t same =
    let digit : is_ascii_digit e ≡ true = all_es 0 e (omega arith) in
    let other : is_ascii_digit e ≡ false = subst NoDigitFirst same ends_r in
    absurd (cc)
same_split (d ∷ ds) [] r t all_ds all_es ends_r ends_t same =
    let digit : is_ascii_digit d ≡ true = all_ds 0 d (omega arith) in
    let other : is_ascii_digit d ≡ false = subst NoDigitFirst (sym same) ends_t in
    absurd (cc)
same_split (d ∷ ds) (e ∷ es) r t all_ds all_es ends_r ends_t same =
    let head : d ≡ e = cc in
    let tail : ds ++ r ≡ es ++ t = cc in
    let others = same_split ds es r t (λ k x within. all_ds (suc k) x (omega arith)) (λ k x within. all_es (suc k) x (omega arith)) ends_r ends_t tail in
    record { digits = λ i. head i ∷ others.digits i; rest = others.rest }

-- a number at the front is that of all digits there
pub number_split : (text digits rest : List ℕ) (n : ℕ) (behind : List ℕ) → text ≡ digits ++ rest → All IsDigit digits → NoDigitFirst rest → NumberFirst text n behind → (digits ≡ decimal n) × (rest ≡ behind)
number_split text digits rest n behind whole all ends number =
    let same = same_split digits (decimal n) rest behind all (digits_of_decimal n number.small) ends number.ends (sym whole ∙ number.whole) in
    (same.digits, same.rest)
