-- Moments as QWK packets write them: seconds since 1 January 1970, 00:00, in UTC.
use Rattle.std.specs.Prelude.{ℕ, ◌+◌, ◌-◌, ◌*◌, ◌/◌, ◌%◌, ◌==◌, ◌&&◌, ◌||◌, nat_lt, Bool, if◌then◌else◌, List, [], ◌∷◌, ◌++◌, codes, Option, Some, None, option_and_then, pos, unsigned_abs}
use Rattle.std.specs.Char.{is_ascii_digit}
use Rattle.std.specs.Int.{is_in_range}
use Rattle.jiff.specs.Words.{days_in_month}
use Rattle.jiff_core.specs.Calendar.{days_from_civil}
use Rattle.qwk_moments.specs.declared.civil_date.CivilDate.{CivilDate}
use Rattle.qwk_moments.specs.Calendar.{civil_date}

-- a number below 100 in two decimal digits
abbrev pub two_digits : ℕ → List ℕ
two_digits n = (48 + n / 10) ∷ (48 + n % 10) ∷ []

-- a number below 10000 in four
abbrev pub four_digits : ℕ → List ℕ
four_digits n = two_digits (n / 100) ++ two_digits (n % 100)

-- `mm-dd-yy`, with the separator at both `-`
abbrev pub date_with : ℕ → CivilDate → List ℕ
date_with separator date =
    two_digits date.month ++ separator ∷ two_digits date.day ++ separator ∷ two_digits (date.year % 100)

-- `hh:mm`
abbrev pub clock_text : ℕ → ℕ → List ℕ
clock_text hour minute = two_digits hour ++ codes ":" ++ two_digits minute

-- the date of a moment
abbrev pub date_at : ℕ → CivilDate
date_at seconds = civil_date (seconds / 86_400)

-- the date field that is written of a moment
abbrev pub date_text : ℕ → List ℕ
date_text seconds = date_with 45 (date_at seconds)

-- the time field
abbrev pub time_text : ℕ → List ℕ
time_text seconds = clock_text (seconds / 3600 % 24) (seconds / 60 % 60)

-- the stamp, `mm-dd-yyyy,hh:mm:ss`
abbrev pub stamp_text : ℕ → List ℕ
stamp_text seconds =
    let date = date_at seconds in
    two_digits date.month ++ codes "-" ++ two_digits date.day ++ codes "-" ++ four_digits date.year
    ++ codes "," ++ time_text seconds ++ codes ":" ++ two_digits (seconds % 60)

infixl 10 ◌>>=◌
abbrev ◌>>=◌ : {A B : Type 0} → Option A → (A → Option B) → Option B
o >>= f = option_and_then f o

-- the number that two decimal digits write
abbrev pub two_digit_number : ℕ → ℕ → Option ℕ
two_digit_number tens units =
    if is_ascii_digit tens && is_ascii_digit units
    then Some ((tens - 48) * 10 + (units - 48))
    else None

-- the year of two digits: 70 to 99 are 1970 to 1999, 0 to 69 are 2000 to 2069
abbrev pub full_year : ℕ → ℕ
full_year year = if nat_lt year 70 then 2000 + year else 1900 + year

-- `-` or `/`
abbrev pub is_separator : ℕ → Bool
is_separator b = (b == 45) || (b == 47)

-- a date field reads as `mm-dd-yy`, or with `/` in place of both `-`
abbrev pub read_date : List ℕ → Option CivilDate
read_date (m₁ ∷ m₂ ∷ s ∷ d₁ ∷ d₂ ∷ t ∷ y₁ ∷ y₂ ∷ []) = do
  month ← two_digit_number m₁ m₂
  day ← two_digit_number d₁ d₂
  year ← two_digit_number y₁ y₂
  if is_separator s && (t == s)
      then Some (record { year = full_year year; month = month; day = day })
      else None
read_date _ = None

-- a time field reads as `hh:mm`
abbrev pub read_time : List ℕ → Option (ℕ × ℕ)
read_time (h₁ ∷ h₂ ∷ c ∷ m₁ ∷ m₂ ∷ []) = do
  hour ← two_digit_number h₁ h₂
  minute ← two_digit_number m₁ m₂
  if c == 58 then Some (hour, minute) else None
read_time _ = None

-- the calendar has this day
abbrev pub is_date : CivilDate → Bool
is_date date =
    is_in_range 1 12 date.month
    && is_in_range 1 (days_in_month (pos date.year) date.month) date.day

-- the moment at which a minute begins, where the calendar and a clock have it
abbrev pub minute_start : CivilDate → ℕ → ℕ → Option ℕ
minute_start date hour minute =
    let days = unsigned_abs (days_from_civil (pos date.year) date.month date.day) in
    if is_date date && nat_lt hour 24 && nat_lt minute 60
    then Some (days * 86_400 + hour * 3600 + minute * 60)
    else None

-- the moment that a date field and a time field read as
abbrev pub moment_of : List ℕ → List ℕ → Option ℕ
moment_of date time = do
  day ← read_date date
  clock ← read_time time
  minute_start day clock.0 clock.1
