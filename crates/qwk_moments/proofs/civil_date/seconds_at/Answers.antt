-- Years from 1970 to 2069 lie within what the library and 32 bits can count.
use Rattle.std.proofs.Common.{◌≡◌, ℕ, ◌+◌, ◌*◌, ◌/◌, ◌^◌, ◌<◌, sym, ap, ◌∙◌, arith, rules, pos, ℤ, ◌-ℤ◌, int_div, w64, to_z, of_z, unsigned_abs}
use Rattle.jiff_core.specs.declared.civil.datetime.DateTime.{DateTime}
use Rattle.jiff_core.specs.DateTime.{civil_nanos, civil_seconds}
use Rattle.jiff_core.specs.Calendar.{IsBetween}
use Rattle.jiff_core.proofs.SignedLemmas.{signed_arith, back_small}
use Rattle.jiff_core.proofs.DateTimeLemmas.{civil_nanos-parts, civil_nanos-civil_seconds, time_nanos_bound}
use Rattle.qwk_moments.proofs.Window.{since_1970, before_2070, as_count}
use Rattle.qwk_moments.proofs.civil_date.seconds_at.Goals as goal

passed_back : (z : ℤ) (n : ℕ) → z ≡ pos n → n < 2 ^ 32 → to_z w64 (of_z w64 z) ≡ pos n
passed_back z n e h = rw e (back_small w64 (pos n) (omega arith))

counted : (civil : DateTime) → IsBetween (pos 1970) (pos 2069) civil.date.year → civil_seconds civil ≡ pos (unsigned_abs (civil_seconds civil))
counted civil h =
    as_count (civil_seconds civil) (omega (arith, signed_arith, civil_nanos-parts civil, civil_nanos-civil_seconds civil, time_nanos_bound civil.time, since_1970 civil.date h.0))

short : (civil : DateTime) → IsBetween (pos 1970) (pos 2069) civil.date.year → unsigned_abs (civil_seconds civil) < 2 ^ 32
short civil h =
    omega (arith, signed_arith, counted civil h, civil_nanos-parts civil, civil_nanos-civil_seconds civil, time_nanos_bound civil.time, before_2070 civil.date h.1)

whole_seconds : (z : ℤ) (s f : ℕ) → z ≡ pos (s * 1_000_000_000 + f) → f < 1_000_000_000 → int_div z (pos 1_000_000_000) ≡ pos s
whole_seconds z s f e h =
    let quotient : (s * 1_000_000_000 + f) / 1_000_000_000 ≡ s = omega arith in
    rw e (ap pos quotient)

nanos_of : (civil : DateTime) (z : ℤ) → IsBetween (pos 1970) (pos 2069) civil.date.year → z ≡ civil_nanos civil -ℤ pos 0 → int_div z (pos 1_000_000_000) ≡ pos (unsigned_abs (civil_seconds civil))
nanos_of civil z h e =
    whole_seconds z _ civil.time.subsec_nanosecond (omega (arith, signed_arith, civil_nanos-civil_seconds civil, counted civil h)) (omega (arith, civil.time.subsec_in))

pub unwrap-moment-requires : goal.unwrap-moment-requires
unwrap-moment-requires c =
    let dt = c.args.civil in
    c.to_timestamp.ensures.succeeds.1 (omega (arith, signed_arith, civil_nanos-parts dt, time_nanos_bound dt.time, since_1970 dt.date c.requires.0, before_2070 dt.date c.requires.1))

pub overflow_cast-result : goal.overflow_cast-result
overflow_cast-result c =
    let dt = c.args.civil in
    let nanos = rw c.unwrap-moment.ensures at c.to_timestamp.ensures.value in
    let seconds : c.as_second.result ≡ pos (unsigned_abs (civil_seconds dt)) = c.as_second.ensures ∙ nanos_of dt _ c.requires nanos in
    let fits = short dt c.requires in
    rw (passed_back c.as_second.result _ seconds fits) (search rules)

pub returns : goal.returns
returns c =
    let dt = c.args.civil in
    let nanos = rw c.unwrap-moment.ensures at c.to_timestamp.ensures.value in
    let seconds : c.as_second.result ≡ pos (unsigned_abs (civil_seconds dt)) = c.as_second.ensures ∙ nanos_of dt _ c.requires nanos in
    rw (passed_back c.as_second.result _ seconds (short dt c.requires)) (sym (counted dt c.requires))
