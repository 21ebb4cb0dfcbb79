-- A date field and a time field read as a date and a time exactly where they spell them.
use Rattle.std.proofs.Common.{◌≡◌, ◌⊎◌, inl, inr, ℕ, ◌+◌, ◌/◌, ◌%◌, ◌<◌, ◌==◌, ◌&&◌, Bool, true, false, cond, List, [], ◌∷◌, Option, Some, None, option_and_then, refl, arith, eqb-true}
use Rattle.std.specs.Int.{IsInRange}
use Rattle.std.proofs.lemmas.Bool.Decides.{nat_tests}
use Rattle.std.proofs.lemmas.Option.{none-some, same_Some}
use Rattle.qwk_moments.specs.declared.civil_date.CivilDate.{CivilDate}
use Rattle.qwk_moments.specs.Moments.{two_digit_number, full_year, is_separator, date_with, clock_text, read_date, read_time}

pub cond_some : {A : Type 0} (b : Bool) (x y : A) → cond b (Some x) None ≡ Some y → (b ≡ true) × (x ≡ y)
cond_some true x y e = (refl, same_Some x y e)
cond_some false x y e = absurd (none-some y e)

pub and_then_some : {A B P : Type 0} (f : A → Option B) (o : Option A) (y : B) → option_and_then f o ≡ Some y → ((x : A) → o ≡ Some x → f x ≡ Some y → P) → P
and_then_some f None y e k = absurd (none-some y e)
and_then_some f (Some x) y e k = k x refl e

pub number_reads : (n : ℕ) → n < 100 → two_digit_number (48 + n / 10) (48 + n % 10) ≡ Some n
number_reads n h = grind (arith, nat_tests)

pub number_spelled : (tens units n : ℕ) → two_digit_number tens units ≡ Some n → (n < 100) × (tens ≡ 48 + n / 10) × (units ≡ 48 + n % 10)
number_spelled tens units n e =
    let found = cond_some _ _ _ e in
    grind (arith, nat_tests)

pub year_back : (y : ℕ) → IsInRange 1970 2069 y → full_year (y % 100) ≡ y
year_back y h = grind (arith, nat_tests)

pub year_window : (y : ℕ) → y < 100 → IsInRange 1970 2069 (full_year y) × (full_year y % 100 ≡ y)
year_window y h = grind (arith, nat_tests)

separator_known : (s t : ℕ) → (is_separator s && (t == s)) ≡ true → ((s ≡ 45) ⊎ (s ≡ 47)) × (t ≡ s)
separator_known s t e = grind (arith, nat_tests)

separator_seen : (s : ℕ) → (s ≡ 45) ⊎ (s ≡ 47) → (is_separator s && (s == s)) ≡ true
separator_seen s (inl e) = rw e refl
separator_seen s (inr e) = rw e refl

-- The text spells the date with one of the separators, in a year that two digits write.
pub record DateSpelled (text : List ℕ) (date : CivilDate) : Type 0 where
  pub separator : ℕ
  pub known : (separator ≡ 45) ⊎ (separator ≡ 47)
  pub window : IsInRange 1970 2069 date.year
  pub spelled : text ≡ date_with separator date

pub date_reads : (text : List ℕ) (date : CivilDate) → date.month < 100 → date.day < 100 → DateSpelled text date → read_date text ≡ Some date
date_reads text date m d h =
    rw (h.spelled, number_reads date.month m, number_reads date.day d, number_reads (date.year % 100) (omega arith), separator_seen h.separator h.known, year_back date.year h.window) refl

spelled_parts : (m n s d e t y z month day year : ℕ) → two_digit_number m n ≡ Some month → two_digit_number d e ≡ Some day → two_digit_number y z ≡ Some year → (is_separator s && (t == s)) ≡ true → DateSpelled (m ∷ n ∷ s ∷ d ∷ e ∷ t ∷ y ∷ z ∷ []) (record { year = full_year year; month = month; day = day })
spelled_parts m n s d e t y z month day year em ed ey es =
    let mm = number_spelled m n month em in
    let dd = number_spelled d e day ed in
    let yy = number_spelled y z year ey in
    let at = separator_known s t es in
    let window = year_window year yy.0 in
    record {
      separator = s;
      known = at.0;
      window = window.0;
      spelled = rw (window.1, mm.1, mm.2, dd.1, dd.2, yy.1, yy.2, at.1) refl;
    }

pub date_spelled : (text : List ℕ) (date : CivilDate) → read_date text ≡ Some date → DateSpelled text date
date_spelled (m ∷ n ∷ s ∷ d ∷ e ∷ t ∷ y ∷ z ∷ []) date r =
    and_then_some _ (two_digit_number m n) date r (λ month em r. and_then_some _ (two_digit_number d e) date r (λ day ed r. and_then_some _ (two_digit_number y z) date r (λ year ey r.
    let found = cond_some _ _ _ r in
    rw (← found.1) (spelled_parts m n s d e t y z month day year em ed ey found.0))))
date_spelled _ date r = absurd (none-some date r)

pub time_reads : (hour minute : ℕ) → hour < 100 → minute < 100 → read_time (clock_text hour minute) ≡ Some (hour, minute)
time_reads hour minute h m = rw (number_reads hour h, number_reads minute m) refl

time_parts : (h i c m n hour minute : ℕ) → two_digit_number h i ≡ Some hour → two_digit_number m n ≡ Some minute → (c == 58) ≡ true → ◌≡◌ {A = List ℕ} (h ∷ i ∷ c ∷ m ∷ n ∷ []) (clock_text hour minute)
time_parts h i c m n hour minute eh em ec =
    let hh = number_spelled h i hour eh in
    let mm = number_spelled m n minute em in
    let colon = eqb-true c 58 ec in
    rw (hh.1, hh.2, mm.1, mm.2, colon) refl

pub time_spelled : (text : List ℕ) (clock : ℕ × ℕ) → read_time text ≡ Some clock → text ≡ clock_text clock.0 clock.1
time_spelled (h ∷ i ∷ c ∷ m ∷ n ∷ []) clock r =
    and_then_some _ (two_digit_number h i) clock r (λ hour eh r. and_then_some _ (two_digit_number m n) clock r (λ minute em r.
    let found = cond_some _ _ _ r in
    rw (← found.1) (time_parts h i c m n hour minute eh em found.0)))
time_spelled _ clock r = absurd (none-some clock r)
