-- .JHR, in both passes, is tested as its flat list says.
use Rattle.std.proofs.Common.{◌≡◌, ℕ, ◌+◌, ◌<◌, ◌≤◌, false, not, eqb, List, [], ◌∷◌, ◌++◌, length, drop, Result, Ok, refl, sym, ap, ◌∙◌, subst, arith, append_assoc, length-append}
use Rattle.std.specs.Prelude.{map, sum_by}
use Rattle.std.proofs.lemmas.Bool.Decides.{nat_tests}
use Rattle.std.proofs.lemmas.List.{length-map, map-append}
use Rattle.std.proofs.lemmas.List.Sums.{sum_by-append}
use Rattle.jam_records.specs.MessageHeaders.{message_header_at}
use Rattle.jam_records.specs.declared.damage.Damage.{Damage}
use Rattle.jam_records.specs.declared.damage.DamageRule.TheVariants.{Active, Links}
use Rattle.jam_records.specs.declared.message.Kind.{Kind}
use Rattle.jam_records.specs.declared.message.Slot.{Slot}
use Rattle.jam_records.specs.declared.message_header.MessageHeader.{MessageHeader}
use Rattle.jam_threads.specs.Links.{link_of}
use Rattle.damage_rules.specs.Rules.{Rules, by_rules, ◌>>=◌}
use Rattle.damage_rules.specs.Tests.{Tests, at_record, for_each, records_from}
use Rattle.damage_rules.proofs.TestLists.{by_tests, rules_listed, then_listed, value_listed, Hold, IsTested, record_tested, then_tested}
use Rattle.door_outside.specs.File.{jhr_file}
use Rattle.jam_layout.specs.BaseTests.{header_end, header_entry, number_of_last, texts_size, front_of, header_tests, link_tests}
use Rattle.jam_layout.specs.Headers.{wrong_number, front_rules, field_rules, header_rules, behind, entry_of, values_of, step_of, header_at, start, entries_at}
use Rattle.jam_layout.specs.Limits.{slot_limit}
use Rattle.jam_layout.specs.SecondPass.{active_in, links_at, same_link, second_pass, slots_of, Numbered}
use Rattle.jam_layout.specs.declared.entry.HeaderEntry.{HeaderEntry}
use Rattle.jam_layout.specs.declared.entry.Front.{Front}
use Rattle.jam_layout.proofs.TestedWalks.{values, values-map, walk_listed, walk_step}

-- ---- the first pass
last_more : (before : List HeaderEntry) (e : HeaderEntry) → number_of_last (before ++ e ∷ []) ≡ e.number
last_more [] e = refl
last_more (d ∷ []) e = refl
last_more (d ∷ f ∷ before) e = last_more (f ∷ before) e

pub texts_more : (before : List HeaderEntry) (e : HeaderEntry) → texts_size (before ++ e ∷ []) ≡ texts_size before + e.text_len
texts_more before e = omega (arith, sum_by-append (λ (x : HeaderEntry). x.text_len) before (e ∷ []))

front_more : (before : List HeaderEntry) (e : HeaderEntry) → behind (front_of before) e ≡ front_of (before ++ e ∷ [])
front_more before e =
    let item : 1 + length before + 1 ≡ 1 + length (before ++ e ∷ []) = omega (arith, length-append before (e ∷ [])) in
    let last : e.number ≡ number_of_last (before ++ e ∷ []) = sym (last_more before e) in
    let offset : texts_size before + e.text_len ≡ texts_size (before ++ e ∷ []) = sym (texts_more before e) in
    λ i. record { item = item i; last = last i; offset = offset i }

header_listed : (place : ℕ) (kind : Kind) (before : List (List ℕ)) (here : List ℕ)
    → header_at place kind (front_of (map header_entry before)) here ≡ by_tests (header_tests place kind before here) (walk_step (header_entry here) (header_end here) (front_of (map header_entry (before ++ here ∷ []))))
unfolding header_at
header_listed place kind before here =
    let f : Front = front_of (map header_entry before) in
    let next : behind f (header_entry here) ≡ front_of (map header_entry (before ++ here ∷ [])) =
    front_more (map header_entry before) (header_entry here) ∙ ap front_of (sym (map-append header_entry before (here ∷ []))) in
    rules_listed (jhr_file place) f.item (header_rules kind f here) (step_of f (message_header_at here) (values_of (message_header_at here) here))
    ∙ (λ i. by_tests (at_record (jhr_file place) (1 + length-map before header_entry i) (header_rules kind f here)) (walk_step (header_entry here) (header_end here) (next i)))

-- the records of the headers
abbrev pub headers_in : List ℕ → List (List ℕ)
headers_in bytes = records_from header_end 0 bytes

pub headers_listed : (place : ℕ) (kind : Kind) (bytes : List ℕ) → entries_at place kind bytes ≡ by_tests (for_each (header_tests place kind) [] (headers_in bytes)) (map header_entry (headers_in bytes))
unfolding entries_at
headers_listed place kind bytes =
    let rs : List (List ℕ) = headers_in bytes in
    let tests : Tests = for_each (header_tests place kind) [] rs in
    let found : List HeaderEntry × Front = (values (λ seen here. header_entry here) [] rs, front_of (map header_entry rs)) in
    ap (λ (r : Result (List HeaderEntry × Front) Damage). r >>= λ (x : List HeaderEntry × Front). Ok x.0)
    (walk_listed (header_at place kind) (λ before. front_of (map header_entry before)) (λ seen here. header_entry here) header_end (header_tests place kind) (header_listed place kind) bytes 0 [])
    ∙ (value_listed tests found (λ (x : List HeaderEntry × Front). x.0) ∙ ap (by_tests tests) (values-map header_entry [] rs))

-- ---- numbers rise where the tests hold
hold_parts : (a b : Tests) → Hold (a ++ b) → Hold a × Hold b
hold_parts [] b held = (tt, held)
hold_parts (t ∷ a) b held = let others = hold_parts a b held.1 in ((held.0, others.0), others.1)

number_fits : (f : Front) (h : MessageHeader) → wrong_number f h ≡ false → (f.last < h.number) × (h.number ≤ slot_limit)
unfolding wrong_number
number_fits f h e = grind (arith, nat_tests)

pub numbers_rise : (place : ℕ) (kind : Kind) (before xs : List (List ℕ)) → Hold (for_each (header_tests place kind) before xs) → Numbered (number_of_last (map header_entry before)) (map header_entry xs)
unfolding front_rules field_rules entry_of
numbers_rise place kind before [] held = tt
numbers_rise place kind before (x ∷ xs) held =
    let both = hold_parts (header_tests place kind before x) (for_each (header_tests place kind) (before ++ x ∷ []) xs) held in
    let fits = number_fits (front_of (map header_entry before)) (message_header_at x) both.0.1.1.1.1.0 in
    let last : number_of_last (map header_entry (before ++ x ∷ [])) ≡ (message_header_at x).number = ap number_of_last (map-append header_entry before (x ∷ [])) ∙ last_more (map header_entry before) (header_entry x) in
    (fits.0, fits.1, subst (λ (n : ℕ). Numbered n (map header_entry xs)) last (numbers_rise place kind (before ++ x ∷ []) xs both.1))

-- ---- the second pass
links_listed : (place : ℕ) (slots : List Slot) (entries before : List HeaderEntry) (i : ℕ) → i ≡ 1 + length before → links_at place slots i entries ≡ by_tests (for_each (link_tests place slots) before entries) (tt {0})
links_listed place slots [] before i is = refl
links_listed place slots (e ∷ entries) before i is =
    let rules : Rules = (Links, not (same_link e.link (link_of slots e.number))) ∷ [] in
    let next : i + 1 ≡ 1 + length (before ++ e ∷ []) = omega (arith, length-append before (e ∷ [])) in
    ap (λ (r : Result (Unit {0}) Damage). r >>= λ (one : Unit {0}). links_at place slots (i + 1) entries)
    (rules_listed (jhr_file place) i rules (tt {0}) ∙ ap (λ (n : ℕ). by_tests (at_record (jhr_file place) n rules) (tt {0})) is)
    ∙ then_listed (link_tests place slots before e) (for_each (link_tests place slots) (before ++ e ∷ []) entries) (tt {0}) (λ (one : Unit {0}). links_at place slots (i + 1) entries) (tt {0})
    (λ held. links_listed place slots entries (before ++ e ∷ []) (i + 1) next)

pub second_tested : (place active : ℕ) (entries : List HeaderEntry)
    → IsTested (at_record (jhr_file place) 0 ((Active, not (eqb active (active_in entries))) ∷ []) ++ for_each (link_tests place (slots_of 1 entries)) [] entries) (second_pass place active entries)
unfolding second_pass
second_tested place active entries =
    let rules : Rules = (Active, not (eqb active (active_in entries))) ∷ [] in
    then_tested (at_record (jhr_file place) 0 rules) (for_each (link_tests place (slots_of 1 entries)) [] entries) (by_rules (jhr_file place) 0 rules (tt {0})) (λ (count : Unit {0}). links_at place (slots_of 1 entries) 1 entries)
    (record_tested (jhr_file place) 0 rules (tt {0}))
    (record { value = tt {0}; is = links_listed place (slots_of 1 entries) entries [] 1 refl })
