-- The date of a packed message reads exactly where it spells a second that there is.
use Rattle.std.proofs.Common.{◌≡◌, ◌⊎◌, inl, inr, ℕ, zero, suc, ◌+◌, ◌-◌, ◌*◌, ◌/◌, ◌%◌, ◌<◌, ◌==◌, ◌&&◌, Bool, true, false, cond, List, [], ◌∷◌, length, Option, Some, None, refl, sym, ap, ◌∙◌, arith, eqb-true}
use Rattle.std.specs.Prelude.{codes, nat_lt, slice_get, pos, ◌+ℤ◌, ◌*ℤ◌, unsigned_abs}
use Rattle.std.specs.Str.{bytes_eq}
use Rattle.std.proofs.lemmas.Bool.Decides.{nat_tests}
use Rattle.std.proofs.lemmas.Slice.Eq.{bytes_eq-Decides}
use Rattle.std.proofs.lemmas.Option.{none-some, same_Some}
use Rattle.jiff_core.specs.Calendar.{days_from_civil}
use Rattle.jiff_core.proofs.SignedLemmas.{signed_arith}
use Rattle.qwk_moments.specs.declared.civil_date.CivilDate.{CivilDate}
use Rattle.qwk_moments.specs.Moments.{clock_text, date_with, moment_of, two_digit_number, two_digits}
use Rattle.qwk_moments.specs.Spelled.{MomentReads}
use Rattle.qwk_moments.proofs.Readings.{reading_spells, spelling_reads}
use Rattle.qwk_moments.proofs.Spelling.{and_then_some, cond_some, number_reads, number_spelled}
use Rattle.qwk_moments.proofs.Window.{parts_since_1970}
use Rattle.fts_packet.specs.Date.{byte_at, date_field, digit_or_space, has_spaces, has_colons, moment_in, moment_of_date, month_digits, second_of, time_field}
use Rattle.fts_packet.specs.Spelled.{DateReads, date_time, month_names, short_day}

-- ---- months
-- The name of a month, and the month's number in two digits.
record MonthOf (name digits : List ℕ) : Type 0 where
  pub before : ℕ
  pub below : before < 12
  pub named : slice_get month_names before ≡ Some name
  pub written : digits ≡ two_digits (before + 1)

month_at : (before : ℕ) (name : List ℕ) → before < 12 → slice_get month_names before ≡ Some name → MonthOf name (two_digits (before + 1))
month_at before name below named = record { before = before; below = below; named = named; written = refl }

-- a name is this one, or one that is tried behind it
this_or : (name this digits found : List ℕ) (rest : Option (List ℕ)) (same : Bool) → (same ≡ true → name ≡ this) → MonthOf this digits
    → cond same (Some digits) rest ≡ Some found → (rest ≡ Some found → MonthOf name found) → MonthOf name found
this_or name this digits found rest true is month e others = rw (is refl, ← same_Some digits found e) month
this_or name this digits found rest false is month e others = others e

this_name : (name this digits found : List ℕ) (rest : Option (List ℕ)) → MonthOf this digits
    → cond (bytes_eq name this) (Some digits) rest ≡ Some found → (rest ≡ Some found → MonthOf name found) → MonthOf name found
this_name name this digits found rest month e others = this_or name this digits found rest (bytes_eq name this) (bytes_eq-Decides name this).0 month e others

month_named : (name found : List ℕ) → month_digits name ≡ Some found → MonthOf name found
unfolding month_digits
month_named name found e =
    this_name name (codes "Jan") (codes "01") found _ (month_at 0 (codes "Jan") (omega arith) refl) e (λ e.
    this_name name (codes "Feb") (codes "02") found _ (month_at 1 (codes "Feb") (omega arith) refl) e (λ e.
    this_name name (codes "Mar") (codes "03") found _ (month_at 2 (codes "Mar") (omega arith) refl) e (λ e.
    this_name name (codes "Apr") (codes "04") found _ (month_at 3 (codes "Apr") (omega arith) refl) e (λ e.
    this_name name (codes "May") (codes "05") found _ (month_at 4 (codes "May") (omega arith) refl) e (λ e.
    this_name name (codes "Jun") (codes "06") found _ (month_at 5 (codes "Jun") (omega arith) refl) e (λ e.
    this_name name (codes "Jul") (codes "07") found _ (month_at 6 (codes "Jul") (omega arith) refl) e (λ e.
    this_name name (codes "Aug") (codes "08") found _ (month_at 7 (codes "Aug") (omega arith) refl) e (λ e.
    this_name name (codes "Sep") (codes "09") found _ (month_at 8 (codes "Sep") (omega arith) refl) e (λ e.
    this_name name (codes "Oct") (codes "10") found _ (month_at 9 (codes "Oct") (omega arith) refl) e (λ e.
    this_name name (codes "Nov") (codes "11") found _ (month_at 10 (codes "Nov") (omega arith) refl) e (λ e.
    this_name name (codes "Dec") (codes "12") found _ (month_at 11 (codes "Dec") (omega arith) refl) e (λ e.
    absurd (none-some found e)))))))))))))

-- a name of three bytes, which is read as these digits
record ReadsMonth (name digits : List ℕ) : Type 0 where
  pub whole : name ≡ byte_at 0 name ∷ byte_at 1 name ∷ byte_at 2 name ∷ []
  pub read : month_digits name ≡ Some digits

known : (this name digits : List ℕ) → Some this ≡ Some name → ReadsMonth this digits → ReadsMonth name digits
known this name digits e month = rw (← same_Some this name e) month

month_reads : (before : ℕ) (name : List ℕ) → slice_get month_names before ≡ Some name → ReadsMonth name (two_digits (before + 1))
unfolding month_digits
month_reads zero name e = known (codes "Jan") name (codes "01") e (record { whole = refl; read = refl })
month_reads (suc zero) name e = known (codes "Feb") name (codes "02") e (record { whole = refl; read = refl })
month_reads (suc (suc zero)) name e = known (codes "Mar") name (codes "03") e (record { whole = refl; read = refl })
month_reads (suc (suc (suc zero))) name e = known (codes "Apr") name (codes "04") e (record { whole = refl; read = refl })
month_reads (suc (suc (suc (suc zero)))) name e = known (codes "May") name (codes "05") e (record { whole = refl; read = refl })
month_reads (suc (suc (suc (suc (suc zero))))) name e = known (codes "Jun") name (codes "06") e (record { whole = refl; read = refl })
month_reads (suc (suc (suc (suc (suc (suc zero)))))) name e = known (codes "Jul") name (codes "07") e (record { whole = refl; read = refl })
month_reads (suc (suc (suc (suc (suc (suc (suc zero))))))) name e = known (codes "Aug") name (codes "08") e (record { whole = refl; read = refl })
month_reads (suc (suc (suc (suc (suc (suc (suc (suc zero)))))))) name e = known (codes "Sep") name (codes "09") e (record { whole = refl; read = refl })
month_reads (suc (suc (suc (suc (suc (suc (suc (suc (suc zero))))))))) name e = known (codes "Oct") name (codes "10") e (record { whole = refl; read = refl })
month_reads (suc (suc (suc (suc (suc (suc (suc (suc (suc (suc zero)))))))))) name e = known (codes "Nov") name (codes "11") e (record { whole = refl; read = refl })
month_reads (suc (suc (suc (suc (suc (suc (suc (suc (suc (suc (suc zero))))))))))) name e = known (codes "Dec") name (codes "12") e (record { whole = refl; read = refl })
month_reads (suc (suc (suc (suc (suc (suc (suc (suc (suc (suc (suc (suc n)))))))))))) name e = absurd (none-some name e)

-- ---- from the bytes to what they spell
day_from : (same : Bool) (a b day : ℕ) → (same ≡ true → a ≡ 32) → cond same 48 a ≡ 48 + day / 10 → b ≡ 48 + day % 10
    → ((a ∷ b ∷ []) ≡ two_digits day) ⊎ ((day < 10) × ((a ∷ b ∷ []) ≡ short_day day))
day_from true a b day is first next =
    let space : a ≡ 32 = is refl in
    let digit : b ≡ 48 + day = omega arith in
    inr (omega arith, rw (space, digit) refl)
day_from false a b day is first next = inl (rw (first, next) refl)

day_spells : (a b day : ℕ) → digit_or_space a ≡ 48 + day / 10 → b ≡ 48 + day % 10
    → ((a ∷ b ∷ []) ≡ two_digits day) ⊎ ((day < 10) × ((a ∷ b ∷ []) ≡ short_day day))
day_spells a b day first next = day_from (a == 32) a b day (eqb-true a 32) first next

-- the bytes that are no digits and no letters
marks_are : (s t u v c d e : ℕ) → ((((s == 32 && t == 32) && u == 32) && v == 32) && ((c == 58 && d == 58) && e == 0)) ≡ true
    → (s ≡ 32) × (t ≡ 32) × (u ≡ 32) × (v ≡ 32) × (c ≡ 58) × (d ≡ 58) × (e ≡ 0)
marks_are s t u v c d e h = grind (arith, nat_tests)

-- a month, the fields that are read of the other parts, and a second, each as it is spelled
put_together : (a b m n o y z h i k l p q start second seconds : ℕ) (digits : List ℕ) → MonthOf (m ∷ n ∷ o ∷ []) digits
    → MomentReads (byte_at 0 digits ∷ byte_at 1 digits ∷ 45 ∷ digit_or_space a ∷ b ∷ 45 ∷ y ∷ z ∷ []) (h ∷ i ∷ 58 ∷ k ∷ l ∷ []) start
    → two_digit_number p q ≡ Some second → second < 60 → start + second ≡ seconds
    → DateReads (a ∷ b ∷ 32 ∷ m ∷ n ∷ o ∷ 32 ∷ y ∷ z ∷ 32 ∷ 32 ∷ h ∷ i ∷ 58 ∷ k ∷ l ∷ 58 ∷ p ∷ q ∷ 0 ∷ []) seconds
put_together a b m n o y z h i k l p q start second seconds digits month reads es few total =
    let last = number_spelled p q second es in
    let first : byte_at 0 digits ≡ 48 + reads.day.month / 10 = ap (byte_at 0) reads.date_spelled in
    let next : byte_at 1 digits ≡ 48 + reads.day.month % 10 = ap (byte_at 1) reads.date_spelled in
    let tens : byte_at 0 digits ≡ 48 + (month.before + 1) / 10 = ap (byte_at 0) month.written in
    let units : byte_at 1 digits ≡ 48 + (month.before + 1) % 10 = ap (byte_at 1) month.written in
    let same : reads.day.month - 1 ≡ month.before = omega arith in
    let y_is : y ≡ 48 + reads.day.year % 100 / 10 = ap (byte_at 6) reads.date_spelled in
    let z_is : z ≡ 48 + reads.day.year % 100 % 10 = ap (byte_at 7) reads.date_spelled in
    let h_is : h ≡ 48 + reads.hour / 10 = ap (byte_at 0) reads.time_spelled in
    let i_is : i ≡ 48 + reads.hour % 10 = ap (byte_at 1) reads.time_spelled in
    let k_is : k ≡ 48 + reads.minute / 10 = ap (byte_at 3) reads.time_spelled in
    let l_is : l ≡ 48 + reads.minute % 10 = ap (byte_at 4) reads.time_spelled in
    record {
      day = reads.day;
      window = reads.window;
      on_calendar = reads.on_calendar;
      digits = a ∷ b ∷ [];
      day_spelled = day_spells a b reads.day.day (ap (byte_at 3) reads.date_spelled) (ap (byte_at 4) reads.date_spelled);
      name = m ∷ n ∷ o ∷ [];
      month_spelled = rw same month.named;
      hour = reads.hour;
      minute = reads.minute;
      second = second;
      on_clock = (reads.on_clock.0, reads.on_clock.1, few);
      spelled = rw (y_is, z_is, h_is, i_is, k_is, l_is, last.1, last.2) refl;
      begins = omega (arith, signed_arith, reads.begins);
    }

cond_then : {A : Type 0} (b : Bool) (o : Option A) (y : A) → cond b o None ≡ Some y → (b ≡ true) × (o ≡ Some y)
cond_then true o y e = (refl, e)
cond_then false o y e = absurd (none-some y e)

pub date_spells : (date : List ℕ) (seconds : ℕ) → length date ≡ 20 → moment_of_date date ≡ Some seconds → DateReads date seconds
unfolding moment_of_date
date_spells (a ∷ b ∷ s ∷ m ∷ n ∷ o ∷ t ∷ y ∷ z ∷ u ∷ v ∷ h ∷ i ∷ c ∷ k ∷ l ∷ d ∷ p ∷ q ∷ e ∷ []) seconds long r =
    let date : List ℕ = a ∷ b ∷ s ∷ m ∷ n ∷ o ∷ t ∷ y ∷ z ∷ u ∷ v ∷ h ∷ i ∷ c ∷ k ∷ l ∷ d ∷ p ∷ q ∷ e ∷ [] in
    let found = cond_then (has_spaces date && has_colons date) (moment_in date) seconds r in
    let marks = marks_are s t u v c d e found.0 in
    and_then_some _ (month_digits (m ∷ n ∷ o ∷ [])) seconds found.1 (λ digits em r.
    and_then_some _ (moment_of (date_field digits date) (time_field date)) seconds r (λ start et r.
    and_then_some _ (second_of date) seconds r (λ second es total.
    and_then_some _ (two_digit_number p q) second es (λ number en r.
    let few = cond_some (nat_lt number 60) number second r in
    let below : second < 60 = grind (arith, nat_tests) in
    rw (marks.0, marks.1, marks.2, marks.3, marks.4, marks.5, marks.6)
    (put_together a b m n o y z h i k l p q start second seconds digits (month_named (m ∷ n ∷ o ∷ []) digits em)
    (reading_spells (date_field digits date) (time_field date) start et) (en ∙ ap (λ x. Some x) few.1) below (same_Some (start + second) seconds total))))))
date_spells _ seconds long r = absurd (omega arith)

-- ---- and back
read_back : (day : CivilDate) (hour minute second start a b m n o : ℕ) → month_digits (m ∷ n ∷ o ∷ []) ≡ Some (two_digits day.month)
    → digit_or_space a ≡ 48 + day.day / 10 → b ≡ 48 + day.day % 10 → moment_of (date_with 45 day) (clock_text hour minute) ≡ Some start → second < 60
    → moment_of_date (date_time (a ∷ b ∷ []) (m ∷ n ∷ o ∷ []) day.year hour minute second) ≡ Some (start + second)
unfolding moment_of_date
read_back day hour minute second start a b m n o month first next minute_is few =
    let last : nat_lt second 60 ≡ true = grind (arith, nat_tests) in
    rw (month, first, next, minute_is, number_reads second (omega arith), last) refl

digit_stays : (n : ℕ) → digit_or_space (48 + n) ≡ 48 + n
digit_stays n = grind (arith, nat_tests)

two_ways : (date : List ℕ) (seconds : ℕ) (h : DateReads date seconds) (start : ℕ) → ReadsMonth h.name (two_digits h.day.month)
    → moment_of (date_with 45 h.day) (clock_text h.hour h.minute) ≡ Some start → start + h.second ≡ seconds → moment_of_date date ≡ Some seconds
two_ways date seconds h start month minute_is total =
    let m : ℕ = byte_at 0 h.name in
    let n : ℕ = byte_at 1 h.name in
    let o : ℕ = byte_at 2 h.name in
    let day : ℕ = h.day.day in
    let read : month_digits (m ∷ n ∷ o ∷ []) ≡ Some (two_digits h.day.month) = ap month_digits (sym month.whole) ∙ month.read in
    let spelled : (digits : List ℕ) → h.digits ≡ digits → date ≡ date_time digits (m ∷ n ∷ o ∷ []) h.day.year h.hour h.minute h.second =
    λ digits e. h.spelled ∙ (λ i. date_time (e i) (month.whole i) h.day.year h.hour h.minute h.second) in
    let same : Some (start + h.second) ≡ Some seconds = ap (λ x. Some x) total in
    elim h.day_spelled [
      | inl two ↦ ap moment_of_date (spelled (two_digits day) two)
          ∙ (read_back h.day h.hour h.minute h.second start (48 + day / 10) (48 + day % 10) m n o read (digit_stays (day / 10)) refl minute_is h.on_clock.2 ∙ same)
      | inr short ↦ ap moment_of_date (spelled (short_day day) short.1)
          ∙ (read_back h.day h.hour h.minute h.second start 32 (48 + day) m n o read (omega (arith, short.0)) (omega (arith, short.0)) minute_is h.on_clock.2 ∙ same)
    ]

pub date_reads : (date : List ℕ) (seconds : ℕ) → DateReads date seconds → moment_of_date date ≡ Some seconds
date_reads date seconds h =
    let days : ℕ = unsigned_abs (days_from_civil (pos h.day.year) h.day.month h.day.day) in
    let minute : ℕ = h.hour * 3600 + h.minute * 60 in
    let count : days_from_civil (pos h.day.year) h.day.month h.day.day ≡ pos days = parts_since_1970 h.day.year h.day.month h.day.day h.on_calendar h.window.0 in
    let begins : pos seconds ≡ pos days *ℤ pos 86_400 +ℤ pos (minute + h.second) = rw count at h.begins in
    let start : ℕ = days * 86_400 + minute in
    let minute_is : moment_of (date_with 45 h.day) (clock_text h.hour h.minute) ≡ Some start =
    spelling_reads (date_with 45 h.day) (clock_text h.hour h.minute) start (record {
      separator = 45;
      known = inl refl;
      day = h.day;
      window = h.window;
      on_calendar = h.on_calendar;
      hour = h.hour;
      minute = h.minute;
      on_clock = (h.on_clock.0, h.on_clock.1);
      date_spelled = refl;
      time_spelled = refl;
      begins = rw count (omega (arith, signed_arith));
    }) in
    let number : h.day.month - 1 + 1 ≡ h.day.month = omega (arith, h.on_calendar.1) in
    let month : ReadsMonth h.name (two_digits h.day.month) = rw (← number) (month_reads (h.day.month - 1) h.name h.month_spelled) in
    let total : start + h.second ≡ seconds = omega (arith, signed_arith, begins) in
    two_ways date seconds h start (record { whole = month.whole; read = month.read }) minute_is total
