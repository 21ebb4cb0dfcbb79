-- The date of the library is the one that the walk comes to.
use Rattle.std.proofs.Common.{◌≡◌, ℕ, ◌*◌, ◌/◌, ap, refl, ◌∙◌, arith, pos}
use Rattle.jiff_core.specs.declared.civil.datetime.DateTime.{DateTime}
use Rattle.jiff_core.specs.Date.{epoch_day}
use Rattle.jiff_core.specs.DateTime.{civil_nanos}
use Rattle.jiff_core.proofs.SignedLemmas.{signed_arith}
use Rattle.jiff_core.proofs.CalendarLemmas.{days_in_month_bounds}
use Rattle.jiff_core.proofs.DateTimeLemmas.{civil_nanos-parts, time_nanos_bound}
use Rattle.qwk_moments.specs.Calendar.{civil_date}
use Rattle.qwk_moments.proofs.CalendarWalk.{civil_date-only}
use Rattle.qwk_moments.proofs.civil_date.date_of_moment.Goals as goal

epoch_day-whole : (seconds : ℕ) (dt : DateTime) → civil_nanos dt ≡ pos (seconds * 1_000_000_000) → epoch_day dt.date ≡ pos (seconds / 86_400)
epoch_day-whole seconds dt e = omega (arith, signed_arith, civil_nanos-parts dt, time_nanos_bound dt.time)

pub returns-clause-date : goal.returns-clause-date
returns-clause-date c =
    let nanos = rw c.unwrap-moment.ensures at c.from_second.ensures.value in
    let whole : civil_nanos c.to_datetime.result ≡ pos (c.args.seconds * 1_000_000_000) = omega (arith, signed_arith, nanos, c.from.ensures) in
    let number : epoch_day c.date-date.result ≡ pos (c.args.seconds / 86_400) = ap epoch_day c.date-date.ensures ∙ epoch_day-whole c.args.seconds c.to_datetime.result whole in
    let shown = civil_date-only (c.args.seconds / 86_400) c.date-date.result (omega arith) number in
    let short = days_in_month_bounds c.date-date.result.year c.date-date.result.month in
    let year : c.unsigned_abs.result ≡ (civil_date (c.args.seconds / 86_400)).year = omega (arith, signed_arith, shown) in
    let month : c.unsigned_abs-2.result ≡ (civil_date (c.args.seconds / 86_400)).month = omega (arith, signed_arith, shown) in
    let day : c.unsigned_abs-3.result ≡ (civil_date (c.args.seconds / 86_400)).day = omega (arith, signed_arith, shown) in
    rw (year, month, day) refl
