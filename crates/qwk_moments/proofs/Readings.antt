-- moment_of is what the fields spell.
use Rattle.std.proofs.Common.{◌≡◌, ℕ, ◌+◌, ◌*◌, ◌/◌, ◌%◌, ◌<◌, List, Some, inl, refl, arith, pos, ◌+ℤ◌, ◌*ℤ◌, unsigned_abs}
use Rattle.std.specs.Int.{IsInRange}
use Rattle.jiff_core.specs.Calendar.{days_from_civil, days_in_month, IsCivilDate}
use Rattle.jiff_core.proofs.SignedLemmas.{signed_arith}
use Rattle.jiff_core.proofs.CalendarLemmas.{days_in_month_bounds}
use Rattle.qwk_moments.specs.declared.civil_date.CivilDate.{CivilDate}
use Rattle.qwk_moments.specs.Moments.{date_at, date_text, time_text, read_date, read_time, minute_start, moment_of}
use Rattle.qwk_moments.specs.Spelled.{MomentReads}
use Rattle.qwk_moments.proofs.CalendarWalk.{civil_date-number}
use Rattle.qwk_moments.proofs.Minutes.{tests_say}
use Rattle.qwk_moments.proofs.Spelling.{cond_some, and_then_some, date_reads, date_spelled, time_reads, time_spelled}
use Rattle.qwk_moments.proofs.Window.{parts_since_1970, parts_in_window}

-- The calendar and a clock have the minute, and it begins at the moment.
record Begins (date : CivilDate) (hour minute seconds : ℕ) : Type 0 where
  pub on_calendar : IsCivilDate (pos date.year) date.month date.day
  pub on_clock : (hour < 24) × (minute < 60)
  pub begins : pos seconds ≡ days_from_civil (pos date.year) date.month date.day *ℤ pos 86_400 +ℤ pos (hour * 3600 + minute * 60)

minute_found : (date : CivilDate) (hour minute seconds : ℕ) → IsInRange 1970 2069 date.year → minute_start date hour minute ≡ Some seconds → Begins date hour minute seconds
minute_found date hour minute seconds window e =
    let found = cond_some _ _ _ e in
    let holds = (tests_say date.month date.day (days_in_month (pos date.year) date.month) hour minute).0 found.0 in
    let calendar : IsCivilDate (pos date.year) date.month date.day = (omega (arith, signed_arith, window), holds.0, holds.1) in
    let count = parts_since_1970 date.year date.month date.day calendar window.0 in
    record {
      on_calendar = calendar;
      on_clock = (holds.2, holds.3);
      begins = rw count (omega (arith, signed_arith, found.1));
    }

minute_begins : (date : CivilDate) (hour minute seconds : ℕ) → IsInRange 1970 2069 date.year → Begins date hour minute seconds → minute_start date hour minute ≡ Some seconds
minute_begins date hour minute seconds window h =
    let test = (tests_say date.month date.day (days_in_month (pos date.year) date.month) hour minute).1 (h.on_calendar.1, h.on_calendar.2, h.on_clock.0, h.on_clock.1) in
    let count = parts_since_1970 date.year date.month date.day h.on_calendar window.0 in
    let whole = rw count at h.begins in
    let same : unsigned_abs (days_from_civil (pos date.year) date.month date.day) * 86_400 + hour * 3600 + minute * 60 ≡ seconds = omega (arith, signed_arith, whole) in
    rw (test, same) refl

pub reading_spells : (date time : List ℕ) (seconds : ℕ) → moment_of date time ≡ Some seconds → MomentReads date time seconds
reading_spells date time seconds e =
    and_then_some _ (read_date date) seconds e (λ day ed r. and_then_some _ (read_time time) seconds r (λ clock et r.
    let spelled = date_spelled date day ed in
    let begins = minute_found day clock.0 clock.1 seconds spelled.window r in
    record {
      separator = spelled.separator;
      known = spelled.known;
      day = day;
      window = spelled.window;
      on_calendar = begins.on_calendar;
      hour = clock.0;
      minute = clock.1;
      on_clock = begins.on_clock;
      date_spelled = spelled.spelled;
      time_spelled = time_spelled time clock et;
      begins = begins.begins;
    }))

pub spelling_reads : (date time : List ℕ) (seconds : ℕ) → MomentReads date time seconds → moment_of date time ≡ Some seconds
spelling_reads date time seconds h =
    let short = days_in_month_bounds (pos h.day.year) h.day.month in
    let day : read_date date ≡ Some h.day = date_reads date h.day (omega (arith, h.on_calendar.1)) (omega (arith, h.on_calendar.2, short)) (record { separator = h.separator; known = h.known; window = h.window; spelled = h.date_spelled }) in
    let clock : read_time time ≡ Some (h.hour, h.minute) = rw h.time_spelled (time_reads h.hour h.minute (omega (arith, h.on_clock)) (omega (arith, h.on_clock))) in
    let begins = minute_begins h.day h.hour h.minute seconds h.window (record { on_calendar = h.on_calendar; on_clock = h.on_clock; begins = h.begins }) in
    rw (day, clock) begins

minute_of_day : (s : ℕ) → s / 60 * 60 ≡ s / 86_400 * 86_400 + (s / 3600 % 24 * 3600 + s / 60 % 60 * 60)
minute_of_day s = omega arith

pub written_spells : (s : ℕ) → s < 3_155_760_000 → MomentReads (date_text s) (time_text s) (s / 60 * 60)
written_spells s h =
    let found = civil_date-number (s / 86_400) (omega arith) in
    record {
      separator = 45;
      known = inl refl;
      day = date_at s;
      window = parts_in_window (s / 86_400) (date_at s).year (date_at s).month (date_at s).day found.civil found.number (omega arith);
      on_calendar = found.civil;
      hour = s / 3600 % 24;
      minute = s / 60 % 60;
      on_clock = (omega arith, omega arith);
      date_spelled = refl;
      time_spelled = refl;
      begins = rw found.number (omega (arith, signed_arith, minute_of_day s));
    }
