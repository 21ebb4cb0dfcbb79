-- Each text is digits with separators between them.
use Rattle.std.proofs.Common.{ℕ, ◌+◌, ◌/◌, ◌%◌, ◌^◌, ◌<◌, List, [], ◌∷◌, ◌++◌, arith, rules, pos}
use Rattle.std.specs.Int.{IsInRange}
use Rattle.std.specs.List.{All}
use Rattle.std.proofs.lemmas.List.Elements.{All-append, All-cons}
use Rattle.jiff_core.proofs.SignedLemmas.{signed_arith}
use Rattle.jiff_core.proofs.CalendarLemmas.{days_in_month_bounds}
use Rattle.qwk_moments.specs.Moments.{two_digits, four_digits, date_at, time_text}
use Rattle.qwk_moments.proofs.CalendarWalk.{civil_date-number}
use Rattle.qwk_moments.proofs.laws.written_bytes.Goals as goal

abbrev Plain : List ℕ → Type 0
Plain text = All (IsInRange 44 58) text

before : (b : ℕ) (text : List ℕ) → IsInRange 44 58 b → Plain text → Plain (b ∷ text)
before b text h rest = All-cons (IsInRange 44 58) b text h rest

joined : (a b : List ℕ) → Plain a → Plain b → Plain (a ++ b)
joined a b h k = All-append (IsInRange 44 58) a b h k

none : Plain []
none k d h = absurd (omega arith)

two : (n : ℕ) → n < 100 → Plain (two_digits n)
two n h = before (48 + n / 10) ((48 + n % 10) ∷ []) (omega arith) (before (48 + n % 10) [] (omega arith) none)

behind : (b n : ℕ) → IsInRange 44 58 b → n < 100 → Plain (b ∷ two_digits n)
behind b n h k = before b (two_digits n) h (two n k)

four : (n : ℕ) → n < 10_000 → Plain (four_digits n)
four n h = joined (two_digits (n / 100)) (two_digits (n % 100)) (two (n / 100) (omega arith)) (two (n % 100) (omega arith))

-- The parts of a date that 32 bits of seconds reach.
record IsShort (seconds : ℕ) : Type 0 where
  pub months : (date_at seconds).month < 100
  pub days : (date_at seconds).day < 100
  pub years : (date_at seconds).year < 10_000

short : (seconds : ℕ) → seconds < 2 ^ 32 → IsShort seconds
short seconds h =
    let found = (civil_date-number (seconds / 86_400) (omega arith)).civil in
    let month = days_in_month_bounds (pos (date_at seconds).year) (date_at seconds).month in
    record {
      months = omega (arith, found.1);
      days = omega (arith, found.2, month);
      years = omega (arith, signed_arith, found.0);
    }

time : (seconds : ℕ) → Plain (time_text seconds)
time seconds = joined (two_digits (seconds / 3600 % 24) ++ 58 ∷ []) (two_digits (seconds / 60 % 60)) (joined (two_digits (seconds / 3600 % 24)) (58 ∷ []) (two (seconds / 3600 % 24) (omega arith)) (before 58 [] (search rules) none)) (two (seconds / 60 % 60) (omega arith))

day_and_month : (seconds : ℕ) → IsShort seconds → Plain (two_digits (date_at seconds).month ++ 45 ∷ two_digits (date_at seconds).day)
day_and_month seconds h =
    joined (two_digits (date_at seconds).month) (45 ∷ two_digits (date_at seconds).day) (two (date_at seconds).month h.months) (behind 45 (date_at seconds).day (search rules) h.days)

pub returns-clause-date : goal.returns-clause-date
returns-clause-date c = λ s h.
    let parts = short s h in
    joined (two_digits (date_at s).month ++ 45 ∷ two_digits (date_at s).day) (45 ∷ two_digits ((date_at s).year % 100)) (day_and_month s parts) (behind 45 ((date_at s).year % 100) (search rules) (omega arith))

pub returns-clause-time : goal.returns-clause-time
returns-clause-time c = λ s h. time s

pub returns-clause-stamp : goal.returns-clause-stamp
returns-clause-stamp c = λ s h.
    let parts = short s h in
    let date = joined (two_digits (date_at s).month ++ 45 ∷ two_digits (date_at s).day) (45 ∷ four_digits (date_at s).year) (day_and_month s parts) (before 45 (four_digits (date_at s).year) (search rules) (four (date_at s).year parts.years)) in
    let clock = before 44 (time_text s) (search rules) (time s) in
    let seconds = behind 58 (s % 60) (search rules) (omega arith) in
    joined (two_digits (date_at s).month ++ 45 ∷ two_digits (date_at s).day ++ 45 ∷ four_digits (date_at s).year ++ 44 ∷ time_text s) (58 ∷ two_digits (s % 60)) (joined (two_digits (date_at s).month ++ 45 ∷ two_digits (date_at s).day ++ 45 ∷ four_digits (date_at s).year) (44 ∷ time_text s) date clock) seconds
