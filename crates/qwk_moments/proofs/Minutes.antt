-- The library has a minute exactly where the tests on its date and time hold, and both count its seconds alike.
use Rattle.std.proofs.Common.{◌≡◌, ◌↔◌, ℕ, ◌+◌, ◌*◌, ◌<◌, ◌≤◌, ◌&&◌, true, nat_lt, refl, arith, w8, w16, to_z, pos, unsigned_abs}
use Rattle.std.specs.Int.{IsInRange, is_in_range}
use Rattle.std.proofs.lemmas.Bool.Decides.{nat_tests}
use Rattle.std.proofs.lemmas.Int.{to_z_pos}
use Rattle.jiff_core.specs.declared.civil.datetime.DateTime.{DateTime}
use Rattle.jiff_core.specs.Calendar.{days_from_civil, days_in_month, IsDate}
use Rattle.jiff_core.specs.Date.{epoch_day, IsYmd}
use Rattle.jiff_core.specs.DateTime.{civil_seconds}
use Rattle.jiff_core.specs.Time.{IsTime, IsHms}
use Rattle.jiff_core.proofs.SignedLemmas.{signed_arith}
use Rattle.qwk_moments.specs.declared.civil_date.CivilDate.{CivilDate}
use Rattle.qwk_moments.specs.Moments.{is_date}
use Rattle.qwk_moments.proofs.Window.{since_1970}

pub tests_say : (m d k h n : ℕ) → ((is_in_range 1 12 m && is_in_range 1 k d && nat_lt h 24 && nat_lt n 60) ≡ true) ↔ (IsInRange 1 12 m × IsInRange 1 k d × (h < 24) × (n < 60))
tests_say m d k h n = (λ e. grind (arith, nat_tests), λ p. grind (arith, nat_tests))

-- the library's own conditions, of numbers that aren't negative
library_says : (y m d k h n : ℕ) → y ≤ 9999 → k ≡ days_in_month (pos y) m → (IsDate (pos y) (pos m) (pos d) × IsTime (pos h) (pos n) (pos 0) (pos 0)) ↔ (IsInRange 1 12 m × IsInRange 1 k d × (h < 24) × (n < 60))
library_says y m d k h n low e = (
  λ p. let day : IsInRange 1 (days_in_month (pos y) m) d = omega (arith, signed_arith, p.0.2) in
      (omega (arith, signed_arith, p), omega (arith, day), omega (arith, signed_arith, p), omega (arith, signed_arith, p)),
  λ p. ((omega (arith, signed_arith), omega (arith, signed_arith, p), omega (arith, signed_arith, p)), omega (arith, signed_arith, p)),
)

-- The parts as they are passed to the library: narrow enough to be signed.
pub record IsNarrow (date : CivilDate) (hour minute : ℕ) : Type 0 where
  pub years : IsInRange 1970 2069 date.year
  pub months : date.month < 100
  pub days : date.day < 100
  pub hours : hour < 100
  pub minutes : minute < 100

pub has_minute : (date : CivilDate) (hour minute : ℕ) → IsNarrow date hour minute → (IsDate (to_z w16 date.year) (to_z w8 date.month) (to_z w8 date.day) × IsTime (to_z w8 hour) (to_z w8 minute) (pos 0) (pos 0)) ↔ ((is_date date && nat_lt hour 24 && nat_lt minute 60) ≡ true)
has_minute date hour minute f =
    let library = library_says date.year date.month date.day (days_in_month (pos date.year) date.month) hour minute (omega (arith, f.years)) refl in
    let tests = tests_say date.month date.day (days_in_month (pos date.year) date.month) hour minute in
    rw (to_z_pos w16 date.year (omega (arith, f.years)), to_z_pos w8 date.month (omega (arith, f.months)), to_z_pos w8 date.day (omega (arith, f.days)), to_z_pos w8 hour (omega (arith, f.hours)), to_z_pos w8 minute (omega (arith, f.minutes)))
    ((λ p. tests.1 (library.0 p)), (λ e. library.1 (tests.0 e)))

-- the seconds of a date and time that the library has
pub seconds_of_parts : (civil : DateTime) (y m d h n : ℕ) → 1970 ≤ y → IsYmd (pos y) (pos m) (pos d) civil.date → IsHms (pos h) (pos n) (pos 0) (pos 0) civil.time → civil_seconds civil ≡ pos (unsigned_abs (days_from_civil (pos y) m d) * 86_400 + h * 3600 + n * 60)
unfolding civil_seconds
seconds_of_parts civil y m d h n low date time =
    let since = since_1970 civil.date (omega (arith, signed_arith, date)) in
    let month : civil.date.month ≡ m = omega (arith, signed_arith, date) in
    let day : civil.date.day ≡ d = omega (arith, signed_arith, date) in
    let same : epoch_day civil.date ≡ days_from_civil (pos y) m d = rw (date.0, month, day) refl in
    let whole = rw same at since in
    rw (same, whole) (omega (arith, signed_arith, time))

-- the same of the numbers as they are passed
pub seconds_of_minute : (civil : DateTime) (date : CivilDate) (hour minute : ℕ) → IsNarrow date hour minute → IsYmd (to_z w16 date.year) (to_z w8 date.month) (to_z w8 date.day) civil.date → IsHms (to_z w8 hour) (to_z w8 minute) (pos 0) (pos 0) civil.time → civil_seconds civil ≡ pos (unsigned_abs (days_from_civil (pos date.year) date.month date.day) * 86_400 + hour * 3600 + minute * 60)
seconds_of_minute civil date hour minute f day time =
    let y = to_z_pos w16 date.year (omega (arith, f.years)) in
    let m = to_z_pos w8 date.month (omega (arith, f.months)) in
    let d = to_z_pos w8 date.day (omega (arith, f.days)) in
    let h = to_z_pos w8 hour (omega (arith, f.hours)) in
    let n = to_z_pos w8 minute (omega (arith, f.minutes)) in
    seconds_of_parts civil date.year date.month date.day hour minute (omega (arith, f.years)) (rw (y, m, d) at day) (rw (h, n) at time)
