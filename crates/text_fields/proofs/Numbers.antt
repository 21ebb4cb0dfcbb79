-- Digits, and the numbers of fields.
use Rattle.std.proofs.Common.{◌≡◌, ℕ, zero, suc, ◌^◌, ◌<◌, ◌≤◌, List, [], ◌∷◌, ◌++◌, Option, Some, None, length, get_or, refl, sym, ap, ◌∙◌, subst, inl, inr, arith, length-append}
use Rattle.std.proofs.Math.Nat.{pow-le-pow_right}
use Rattle.std.proofs.lemmas.Fmt.{decimal_is_IsNumeral}
use Rattle.std.proofs.lemmas.List.{get_or_push}
use Rattle.std.proofs.lemmas.Int.Digits.{digits_value-lt}
use Rattle.std.proofs.lemmas.Str.Parse.{digit_at}
use Rattle.std.specs.Char.{digit_value}
use Rattle.std.specs.Fmt.{decimal}
use Rattle.std.specs.Int.{IsInRange}
use Rattle.std.specs.Option.{MatchOption}
use Rattle.std.specs.Str.Parse.{AllDigits, digits_value}
use Rattle.text_fields.specs.Blank.{IsBlank}
use Rattle.text_fields.specs.Number.{Digits, Number}
use Rattle.text_fields.specs.Trim.{Trimmed}
use Rattle.text_fields.specs.declared.blank.Blank.{Blank}
use Rattle.text_fields.specs.declared.blank.Blank.TheVariants.{Spaces, SpacesAndNuls}
use Rattle.text_fields.proofs.Trimming.{trimmed_unique}

-- k digits at most have a value below 10 ^ k
pub value_small : (ds : List ℕ) (k : ℕ) → AllDigits 10 ds → length ds ≤ k → digits_value 10 ds < 10 ^ k
value_small ds k decimal le = omega (arith, digits_value-lt 10 ds decimal, pow-le-pow_right {n = 10} (omega arith) {i = length ds} {j = k} le)

pub digit_below : (ds : List ℕ) (i : ℕ) → AllDigits 10 ds → i < length ds → digit_value (get_or ds i 0) < 10
digit_below [] i h lt = absurd (omega arith)
digit_below (c ∷ cs) zero h lt = h.0
digit_below (c ∷ cs) (suc i) h lt = digit_below cs i h.1 (omega arith)

-- one text is the digits of one value
pub digits_unique : (text : List ℕ) (m n : ℕ) → Digits text m → Digits text n → m ≡ n
digits_unique text m n x y = x.value ∙ sym y.value

-- a field has one number at most
pub number_unique : (P : ℕ → Type 0) (i j : ℕ) (f : List ℕ) (m n : ℕ) → Number P i f m → Number P j f n → m ≡ n
number_unique P i j f m n x y = digits_unique y.text m n (subst (λ (t : List ℕ). Digits t m) (trimmed_unique P f x.text y.text x.trimmed y.trimmed) x.digits) y.digits

pub number_small : (P : ℕ → Type 0) (most : ℕ) (f : List ℕ) (n : ℕ) → Number P most f n → n < 10 ^ most
number_small P most f n x = rw x.digits.value (value_small x.text most x.digits.numeral.1 x.short)

-- what a trim leaves decides whether a field has a number
pub no_number : (P : ℕ → Type 0) (most : ℕ) (f text : List ℕ) → Trimmed P f text → ((n : ℕ) → length text ≤ most → Digits text n → ⊥) → (n : ℕ) → Number P most f n → ⊥
no_number P most f text t none n x =
    let e : x.text ≡ text = trimmed_unique P f x.text text x.trimmed t in
    none n (subst (λ (ds : List ℕ). length ds ≤ most) e x.short) (subst (λ (ds : List ℕ). Digits ds n) e x.digits)

digit_no_blank : (blank : Blank) (c : ℕ) → IsInRange 48 57 c → IsBlank blank c → ⊥
digit_no_blank Spaces c range e = omega arith
digit_no_blank SpacesAndNuls c range blank = elim blank [ inl e ↦ omega arith | inr e ↦ omega arith ]

-- digits have no blanks at their ends
pub digits_begin : (blank : Blank) (text : List ℕ) (n : ℕ) → Digits text n → (first : ℕ) (rest : List ℕ) → text ≡ first ∷ rest → IsBlank blank first → ⊥
digits_begin blank text n x first rest e b =
    digit_no_blank blank first (subst (IsInRange 48 57) (ap (λ xs. get_or xs 0 0) e) (digit_at text 0 x.numeral.1 x.numeral.0)) b

pub digits_end : (blank : Blank) (text : List ℕ) (n : ℕ) → Digits text n → (front : List ℕ) (last : ℕ) → text ≡ front ++ last ∷ [] → IsBlank blank last → ⊥
digits_end blank text n x front last e b =
    let some : length front < length text = omega (arith, ap length e, length-append front (last ∷ [])) in
    digit_no_blank blank last (subst (IsInRange 48 57) (ap (λ xs. get_or xs (length front) 0) e ∙ get_or_push front last 0 (length front) refl) (digit_at text (length front) x.numeral.1 some)) b

-- the decimal digits of a number have its value
pub decimal_digits : (n : ℕ) → n < 2 ^ 64 → Digits (decimal n) n
decimal_digits n small = let d = decimal_is_IsNumeral n small in record { numeral = d.0; value = sym d.1 }

-- the digits that a trim leaves are the number
pub number_from_digits : (P : ℕ → Type 0) (most : ℕ) (f text : List ℕ) (r : Option ℕ) → Trimmed P f text → length text ≤ most
    → MatchOption r ((n : ℕ) → Digits text n → ⊥) (Digits text) → MatchOption r ((n : ℕ) → Number P most f n → ⊥) (Number P most f)
number_from_digits P most f text None t short h = no_number P most f text t (λ n le x. h n x)
number_from_digits P most f text (Some n) t short h = record { text = text; trimmed = t; short = short; digits = h }
