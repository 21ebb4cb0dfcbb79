-- What a date field and a time field read as, by how a date and a time are spelled.
use Rattle.std.specs.Prelude.{◌≡◌, ◌⊎◌, ℕ, ◌+◌, ◌*◌, ◌<◌, List, pos, ◌+ℤ◌, ◌*ℤ◌}
use Rattle.std.specs.Int.{IsInRange}
use Rattle.jiff_core.specs.Calendar.{IsCivilDate, days_from_civil}
use Rattle.qwk_moments.specs.declared.civil_date.CivilDate.{CivilDate}
use Rattle.qwk_moments.specs.Moments.{date_with, clock_text}

-- The fields spell a minute that there is, of a year from 1970 to 2069, and it begins at the moment.
pub record MomentReads (date time : List ℕ) (seconds : ℕ) : Type 0 where
  pub separator : ℕ
  pub known : (separator ≡ 45) ⊎ (separator ≡ 47)
  pub day : CivilDate
  pub window : IsInRange 1970 2069 day.year
  pub on_calendar : IsCivilDate (pos day.year) day.month day.day
  pub hour : ℕ
  pub minute : ℕ
  pub on_clock : (hour < 24) × (minute < 60)
  pub date_spelled : date ≡ date_with separator day
  pub time_spelled : time ≡ clock_text hour minute
  pub begins : pos seconds ≡ days_from_civil (pos day.year) day.month day.day *ℤ pos 86_400 +ℤ pos (hour * 3600 + minute * 60)
