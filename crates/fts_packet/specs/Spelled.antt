-- What the date of a packed message reads as, by how FTS-0001 spells a DateTime: DayOfMonth, Month, Year, HH, MM, SS.
use Rattle.std.specs.Prelude.{◌≡◌, ◌⊎◌, ℕ, ◌+◌, ◌-◌, ◌*◌, ◌%◌, ◌<◌, List, [], ◌∷◌, ◌++◌, codes, Some, slice_get, pos, ◌+ℤ◌, ◌*ℤ◌}
use Rattle.std.specs.Int.{IsInRange}
use Rattle.jiff_core.specs.Calendar.{IsCivilDate, days_from_civil}
use Rattle.qwk_moments.specs.declared.civil_date.CivilDate.{CivilDate}
use Rattle.qwk_moments.specs.Moments.{clock_text, two_digits}

abbrev pub month_names : List (List ℕ)
month_names =
    codes "Jan" ∷ codes "Feb" ∷ codes "Mar" ∷ codes "Apr" ∷ codes "May" ∷ codes "Jun"
    ∷ codes "Jul" ∷ codes "Aug" ∷ codes "Sep" ∷ codes "Oct" ∷ codes "Nov" ∷ codes "Dec" ∷ []

-- a day below 10 in one digit behind a space
abbrev pub short_day : ℕ → List ℕ
short_day day = codes " " ++ (48 + day) ∷ []

-- `dd Mmm yy  hh:mm:ss` and NUL
abbrev pub date_time : List ℕ → List ℕ → ℕ → ℕ → ℕ → ℕ → List ℕ
date_time day month year hour minute second =
    day ++ codes " " ++ month ++ codes " " ++ two_digits (year % 100)
    ++ codes "  " ++ clock_text hour minute ++ codes ":" ++ two_digits second ++ 0 ∷ []

-- The bytes spell a second that there is, of a year from 1970 to 2069, and it begins at the moment.
pub record DateReads (date : List ℕ) (seconds : ℕ) : Type 0 where
  pub day : CivilDate
  pub window : IsInRange 1970 2069 day.year
  pub on_calendar : IsCivilDate (pos day.year) day.month day.day
  pub digits : List ℕ
  pub day_spelled : (digits ≡ two_digits day.day) ⊎ ((day.day < 10) × (digits ≡ short_day day.day))
  pub name : List ℕ
  pub month_spelled : slice_get month_names (day.month - 1) ≡ Some name
  pub hour : ℕ
  pub minute : ℕ
  pub second : ℕ
  pub on_clock : (hour < 24) × (minute < 60) × (second < 60)
  pub spelled : date ≡ date_time digits name day.year hour minute second
  pub begins : pos seconds ≡ days_from_civil (pos day.year) day.month day.day *ℤ pos 86_400 +ℤ pos (hour * 3600 + minute * 60 + second)
