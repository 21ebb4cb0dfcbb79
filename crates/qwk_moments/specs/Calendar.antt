-- Days of the Gregorian calendar, one after the other.
use Rattle.std.specs.Prelude.{ℕ, zero, suc, ◌+◌, nat_lt, if◌then◌else◌, pos}
use Rattle.jiff.specs.Words.{days_in_month}
use Rattle.qwk_moments.specs.declared.civil_date.CivilDate.{CivilDate}

-- the day after a date
abbrev pub next_date : CivilDate → CivilDate
next_date date =
    if nat_lt date.day (days_in_month (pos date.year) date.month)
    then record { year = date.year; month = date.month; day = date.day + 1 }
    else (if nat_lt date.month 12
    then record { year = date.year; month = date.month + 1; day = 1 }
    else record { year = date.year + 1; month = 1; day = 1 })

-- the date that many days after 1 January 1970
unfoldable pub civil_date : ℕ → CivilDate
civil_date zero = record { year = 1970; month = 1; day = 1 }
civil_date (suc days) = next_date (civil_date days)
