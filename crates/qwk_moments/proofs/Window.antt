-- The day numbers of the hundred years that two digits write.
use Rattle.std.proofs.Common.{◌≡◌, ℕ, ◌<◌, ◌≤◌, refl, arith, rules, ℤ, pos, negsuc, unsigned_abs, ◌≤ℤ◌, ◌<ℤ◌}
use Rattle.std.proofs.lemmas.Int.{by_lt_z}
use Rattle.std.specs.Int.{IsInRange}
use Rattle.jiff_core.specs.declared.civil.date.Date.{Date}
use Rattle.jiff_core.specs.Calendar.{days_from_civil, days_of_years, days_of_months, day_count, IsCivilDate}
use Rattle.jiff_core.specs.Date.{epoch_day}
use Rattle.jiff_core.proofs.SignedLemmas.{signed_arith}
use Rattle.jiff_core.proofs.CalendarLemmas.{day_count-epoch, day_count-lt_year, day_count-day_of_year, days_from_civil-day_count}
use Rattle.jiff_core.proofs.DateLemmas.{civil}
use Rattle.qwk_moments.proofs.DateParts.{date_of_parts}

century_end : days_from_civil (pos 2070) 1 1 ≡ pos 36_525
unfolding days_from_civil day_count days_of_years days_of_months
century_end = refl

pub before_2070 : (d : Date) → d.year ≤ℤ pos 2069 → epoch_day d <ℤ pos 36_525
before_2070 d h =
    let earlier = day_count-lt_year d.year d.month d.day (pos 2070) 1 1 (civil d) (omega arith) (omega (arith, signed_arith)) in
    omega (arith, signed_arith, century_end, days_from_civil-day_count d.year d.month d.day, days_from_civil-day_count (pos 2070) 1 1)

-- no date lies before 1 January of an earlier year or its own
from_year : (y : ℤ) (d : Date) → IsCivilDate y 1 1 → y ≤ℤ d.year → day_count y 1 1 ≤ day_count d.year d.month d.day
from_year y d first h =
    by_lt_z y d.year
    (λ lt. let later = day_count-lt_year y 1 1 d.year d.month d.day first d.day_in.0 lt in omega (arith, later))
    (λ le. let same : d.year ≡ y = omega (arith, signed_arith) in
    rw same (omega (arith, d.day_in, day_count-day_of_year y d.month d.day d.day_in.0)))

pub as_count : (z : ℤ) → pos 0 ≤ℤ z → z ≡ pos (unsigned_abs z)
as_count (pos n) h = refl
as_count (negsuc n) h = absurd (omega (arith, signed_arith))

pub since_1970 : (d : Date) → pos 1970 ≤ℤ d.year → epoch_day d ≡ pos (unsigned_abs (epoch_day d))
since_1970 d h =
    as_count (epoch_day d) (omega (arith, signed_arith, day_count-epoch, from_year (pos 1970) d (search rules) h, days_from_civil-day_count d.year d.month d.day))

pub parts_since_1970 : (y m d : ℕ) → IsCivilDate (pos y) m d → 1970 ≤ y → days_from_civil (pos y) m d ≡ pos (unsigned_abs (days_from_civil (pos y) m d))
unfolding date_of_parts
parts_since_1970 y m d h low = since_1970 (date_of_parts y m d h) (omega (arith, signed_arith))

at_most_2069 : (d : Date) → epoch_day d <ℤ pos 36_525 → d.year ≤ℤ pos 2069
at_most_2069 d h =
    by_lt_z d.year (pos 2070) (λ lt. omega (arith, signed_arith))
    (λ ge. absurd (omega (arith, signed_arith, century_end, from_year (pos 2070) d (search rules) ge, days_from_civil-day_count d.year d.month d.day, days_from_civil-day_count (pos 2070) 1 1)))

at_least_1970 : (d : Date) → pos 0 ≤ℤ epoch_day d → pos 1970 ≤ℤ d.year
at_least_1970 d h =
    by_lt_z d.year (pos 1970)
    (λ lt. let earlier = day_count-lt_year d.year d.month d.day (pos 1970) 1 1 (civil d) (omega arith) lt in
    absurd (omega (arith, signed_arith, earlier, day_count-epoch, days_from_civil-day_count d.year d.month d.day)))
    (λ ge. ge)

pub parts_in_window : (n y m d : ℕ) → IsCivilDate (pos y) m d → days_from_civil (pos y) m d ≡ pos n → n < 36_525 → IsInRange 1970 2069 y
unfolding date_of_parts
parts_in_window n y m d h e short =
    let date = date_of_parts y m d h in
    let low = at_least_1970 date (omega (arith, signed_arith, e)) in
    let high = at_most_2069 date (omega (arith, signed_arith, e)) in
    omega (arith, signed_arith, low, high)
