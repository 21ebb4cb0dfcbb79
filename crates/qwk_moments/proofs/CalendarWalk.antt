-- The walk over the calendar comes to the date with each day number.
use Rattle.std.proofs.Common.{◌≡◌, ℕ, zero, suc, ◌+◌, ◌<◌, ◌≤◌, ltb, refl, ap, ◌∙◌, sym, arith, rules, pos}
use Rattle.std.proofs.lemmas.Bool.{cond_both, ltb-true, ltb-false}
use Rattle.jiff_core.specs.declared.civil.date.Date.{Date}
use Rattle.jiff_core.specs.Calendar.{days_from_civil, days_in_month, IsCivilDate}
use Rattle.jiff_core.specs.Date.{epoch_day, IsYmd}
use Rattle.jiff_core.proofs.SignedLemmas.{signed_arith}
use Rattle.jiff_core.proofs.CalendarLemmas.{days_in_month_bounds}
use Rattle.jiff_core.proofs.DateLemmas.{days_from_civil-day, days_from_civil-next_month, days_from_civil-next_year, days_from_civil-max, epoch_day_injective}
use Rattle.jiff_core.proofs.StandardFacts.{known_days}
use Rattle.qwk_moments.specs.declared.civil_date.CivilDate.{CivilDate}
use Rattle.qwk_moments.proofs.DateParts.{date_of_parts}
use Rattle.qwk_moments.specs.Calendar.{next_date, civil_date}

-- The calendar has the date, and its day number is n.
pub record HasNumber (n : ℕ) (date : CivilDate) : Type 0 where
  pub civil : IsCivilDate (pos date.year) date.month date.day
  pub number : days_from_civil (pos date.year) date.month date.day ≡ pos n

next_day : (n y m d : ℕ) → IsCivilDate (pos y) m d → days_from_civil (pos y) m d ≡ pos n → d < days_in_month (pos y) m → HasNumber (suc n) (record { year = y; month = m; day = d + 1 })
next_day n y m d h e lt = record {
  civil = omega (arith, signed_arith, h);
  number = omega (arith, signed_arith, days_from_civil-day (pos y) m (d + 1) d (omega arith) (omega (arith, h)));
}

next_month : (n y m d : ℕ) → IsCivilDate (pos y) m d → days_from_civil (pos y) m d ≡ pos n → days_in_month (pos y) m ≤ d → m < 12 → HasNumber (suc n) (record { year = y; month = m + 1; day = 1 })
next_month n y m d h e last lt = record {
  civil = omega (arith, signed_arith, h, days_in_month_bounds (pos y) (m + 1));
  number = omega (arith, signed_arith, days_from_civil-next_month (pos y) m d (omega (arith, h)) (omega (arith, h)));
}

-- 31 December is the last day of its year
december : (y m d : ℕ) → IsCivilDate (pos y) m d → days_in_month (pos y) m ≤ d → 12 ≤ m → (m ≡ 12) × (d ≡ 31)
december y m d h last late =
    let twelve : m ≡ 12 = omega (arith, h) in
    let long : days_in_month (pos y) m ≡ 31 = rw twelve refl in
    (twelve, omega (arith, h))

next_year : (n y m d : ℕ) → n < 2_932_896 → IsCivilDate (pos y) m d → days_from_civil (pos y) m d ≡ pos n → days_in_month (pos y) m ≤ d → 12 ≤ m → HasNumber (suc n) (record { year = y + 1; month = 1; day = 1 })
next_year n y m d below h e last late =
    let end = december y m d h last late in
    let at_end : days_from_civil (pos y) 12 31 ≡ pos n = rw (end.0, end.1) at e in
    let apart : y ≡ 9999 → ⊥ = λ top.
    let last_day : days_from_civil (pos y) 12 31 ≡ pos 2_932_896 = rw top days_from_civil-max in
    omega (arith, signed_arith) in
    record {
      civil = (omega (arith, signed_arith, h), omega arith, omega (arith, days_in_month_bounds (pos (y + 1)) 1));
      number = omega (arith, signed_arith, at_end, days_from_civil-next_year (pos y) (pos (y + 1)) (omega (arith, signed_arith)) (omega (arith, signed_arith)));
    }

next_date-number : (n : ℕ) (date : CivilDate) → n < 2_932_896 → HasNumber n date → HasNumber (suc n) (next_date date)
next_date-number n date below h =
    cond_both (ltb date.day (days_in_month (pos date.year) date.month)) _ _ (HasNumber (suc n))
    (λ e. next_day n date.year date.month date.day h.civil h.number (ltb-true _ _ e))
    (λ e. cond_both (ltb date.month 12) _ _ (HasNumber (suc n))
    (λ f. next_month n date.year date.month date.day h.civil h.number (ltb-false _ _ e) (ltb-true _ _ f))
    (λ f. next_year n date.year date.month date.day below h.civil h.number (ltb-false _ _ e) (ltb-false _ _ f)))

-- the date that many days after the epoch has that day number
pub civil_date-number : (n : ℕ) → n ≤ 2_932_896 → HasNumber n (civil_date n)
unfolding civil_date
civil_date-number zero h = record { civil = search rules; number = known_days.0 }
civil_date-number (suc n) h = next_date-number n (civil_date n) (omega arith) (civil_date-number n (omega arith))

-- so it is the only one with that number
pub civil_date-only : (n : ℕ) (d : Date) → n ≤ 2_932_896 → epoch_day d ≡ pos n → IsYmd (pos (civil_date n).year) (pos (civil_date n).month) (pos (civil_date n).day) d
unfolding date_of_parts
civil_date-only n d h e =
    let here = civil_date-number n h in
    let same = epoch_day_injective d (date_of_parts (civil_date n).year (civil_date n).month (civil_date n).day here.civil) (e ∙ sym here.number) in
    (same.0, ap pos same.1, ap pos same.2)
