-- The library has the date and the time exactly where the calendar and a clock do.
use Rattle.std.proofs.Common.{◌≡◌, Result, Ok, Err, Some, None, IsOk, IfOk, true≢false, sym, ap, refl, ◌∙◌, arith, pos, unsigned_abs, ◌+◌, ◌*◌}
use Rattle.std.specs.Result.{result_ok}
use Rattle.std.proofs.lemmas.Bool.{false_from_ne_true}
use Rattle.jiff_core.specs.Calendar.{days_from_civil}
use Rattle.jiff_core.proofs.SignedLemmas.{signed_arith}
use Rattle.std.proofs.lemmas.Option.{none-some, same_Some}
use Rattle.qwk_moments.proofs.Minutes.{IsNarrow, has_minute, seconds_of_minute}
use Rattle.qwk_moments.proofs.civil_date.start_of_minute.Goals as goal

from_ok : {T E : Type 0} (P : T → Type 0) (r : Result T E) (x : T) → result_ok r ≡ Some x → IfOk r P → IsOk r × P x
from_ok P (Ok y) x e h = (refl, rw (sym (same_Some y x e)) h)
from_ok P (Err y) x e h = absurd (none-some x e)

never_ok : {T E : Type 0} (r : Result T E) → result_ok r ≡ None → IsOk r → ⊥
never_ok (Ok y) e h = none-some y (sym e)
never_ok (Err y) e h = true≢false (sym h)

pub returns-in_err-civil : goal.returns-in_err-civil
returns-in_err-civil c =
    let narrow : IsNarrow c.args.date c.args.hour c.args.minute = record { years = c.requires.years; months = c.requires.months; days = c.requires.days; hours = c.requires.hours; minutes = c.requires.minutes } in
    let has = has_minute c.args.date c.args.hour c.args.minute narrow in
    let none = sym c.ok.ensures.value ∙ c.in_err-civil.was in
    let fails = false_from_ne_true _ (λ e. never_ok c.new.result none (c.new.ensures.succeeds.1 (has.1 e))) in
    rw (c.from_residual.ensures, fails) refl

pub returns : goal.returns
returns c =
    let narrow : IsNarrow c.args.date c.args.hour c.args.minute = record { years = c.requires.years; months = c.requires.months; days = c.requires.days; hours = c.requires.hours; minutes = c.requires.minutes } in
    let has = has_minute c.args.date c.args.hour c.args.minute narrow in
    let some = sym c.ok.ensures.value ∙ c.in_ok-civil.was in
    let made = from_ok _ c.new.result c.in_ok-civil.civil some c.new.ensures.value in
    let test = has.0 (c.new.ensures.succeeds.0 made.0) in
    let seconds = seconds_of_minute c.in_ok-civil.civil c.args.date c.args.hour c.args.minute narrow made.1.0 made.1.1 in
    let same : c.seconds_at.result ≡ unsigned_abs (days_from_civil (pos c.args.date.year) c.args.date.month c.args.date.day) * 86_400 + c.args.hour * 3600 + c.args.minute * 60 = omega (arith, signed_arith, c.seconds_at.ensures, seconds) in
    rw test (ap Some same)
