-- .JDX is tested as its flat list says, where numbers rise.
use Rattle.std.proofs.Common.{◌≡◌, ◌⊎◌, inl, inr, ℕ, zero, suc, ◌+◌, ◌-◌, ◌/◌, ◌<◌, ◌≤◌, Bool, true, false, cond, not, ◌||◌, eqb, ltb, List, [], ◌∷◌, ◌++◌, length, take, drop, Result, Ok, refl, sym, ap, ◌∙◌, subst, arith, append_assoc, length-append, add-one, eqb-true}
use Rattle.std.specs.Prelude.{nat_lt}
use Rattle.std.specs.List.{list_any}
use Rattle.std.proofs.lemmas.Bool.Decides.{nat_tests}
use Rattle.jam_records.specs.declared.damage.Damage.{Damage}
use Rattle.jam_records.specs.declared.damage.DamageRule.TheVariants.{Count, Missing}
use Rattle.jam_records.specs.declared.index_record.IndexRecord.{IndexRecord}
use Rattle.jam_records.specs.declared.message.Message.{Message}
use Rattle.jam_records.specs.declared.message.Slot.{Slot}
use Rattle.damage_rules.specs.Rules.{Rules, by_rules, ◌>>=◌}
use Rattle.damage_rules.specs.Tests.{Tests, at_record, for_each, records_from}
use Rattle.damage_rules.specs.Walk.{WalkStep, walk}
use Rattle.damage_rules.proofs.TestLists.{by_tests, rules_listed, then_listed, IsTested, record_tested, then_tested}
use Rattle.door_outside.specs.File.{jdx_file}
use Rattle.jam_layout.specs.Fields.{subfields_of}
use Rattle.jam_layout.specs.BaseTests.{pair_for, has_greater, index_tests}
use Rattle.jam_layout.specs.Headers.{header_size}
use Rattle.jam_layout.specs.Bodies.{message_with}
use Rattle.jam_layout.specs.Index.{no_pair, pair_of, Pending, Expected, none_here, one_here, expected_of, expected, index_rules, slot_at, slots_at}
use Rattle.jam_layout.specs.Limits.{slot_limit}
use Rattle.jam_layout.specs.SecondPass.{Numbered}
use Rattle.jam_layout.specs.declared.entry.HeaderEntry.{HeaderEntry}
use Rattle.jam_layout.proofs.TestedBodies.{bodied}
use Rattle.jam_layout.proofs.TestedWalks.{values, length-values, walk_listed, walk_step}

-- ---- what is expected of each record, as the reading goes
abbrev first_pending : List HeaderEntry → Pending
first_pending entries = record { item = 0; at = 1024; entries = entries }

abbrev pending_at : List HeaderEntry → ℕ → Pending
pending_at entries zero = first_pending entries
pending_at entries (suc n) = (expected (pending_at entries n)).next

next_either : (j at : ℕ) (e : HeaderEntry) (left : List HeaderEntry) (same : Bool) → (cond same (one_here j at e left) (none_here j at (e ∷ left))).next.item ≡ suc j
next_either j at e left true = omega arith
next_either j at e left false = omega arith

next_item : (j at : ℕ) (left : List HeaderEntry) → (expected_of j at left).next.item ≡ suc j
unfolding expected_of
next_item j at [] = omega arith
next_item j at (e ∷ left) = next_either j at e left (eqb e.number (j + 1))

pending_item : (entries : List HeaderEntry) (n : ℕ) → (pending_at entries n).item ≡ n
pending_item entries zero = refl
pending_item entries (suc n) = let p = pending_at entries n in next_item p.item p.at p.entries ∙ ap suc (pending_item entries n)

abbrev pending_tests : ℕ → List HeaderEntry → List (List ℕ) → List ℕ → Tests
pending_tests place entries before here = at_record (jdx_file place) (length before) (index_rules (expected (pending_at entries (length before))).pair here)

slot_listed : (place : ℕ) (entries : List HeaderEntry) (before : List (List ℕ)) (here : List ℕ)
    → slot_at place (pending_at entries (length before)) here ≡ by_tests (pending_tests place entries before here) (walk_step (expected (pending_at entries (length before))).slot 8 (pending_at entries (length (before ++ here ∷ []))))
unfolding slot_at
slot_listed place entries before here =
    let p : Pending = pending_at entries (length before) in
    let more : suc (length before) ≡ length (before ++ here ∷ []) = omega (arith, length-append before (here ∷ [])) in
    rules_listed (jdx_file place) p.item (index_rules (expected p).pair here) (walk_step (expected p).slot 8 (expected p).next)
    ∙ (λ i. by_tests (at_record (jdx_file place) (pending_item entries (length before) i) (index_rules (expected p).pair here)) (walk_step (expected p).slot 8 (pending_at entries (more i))))

-- the tests of .JDX, by what is expected
abbrev pub pending_part : ℕ → List HeaderEntry → List ℕ → Tests
pending_part place entries jdx =
    let index = records_from (λ here. 8) 0 jdx in
    at_record (jdx_file place) 0 ((Count, nat_lt slot_limit (length jdx / 8)) ∷ [])
    ++ (for_each (pending_tests place entries) [] index
    ++ at_record (jdx_file place) (length index) ((Missing, not (eqb (length (pending_at entries (length index)).entries) 0)) ∷ []))

abbrev pub found_slots : List HeaderEntry → List ℕ → List Slot
found_slots entries jdx = values (λ (before : List (List ℕ)) (here : List ℕ). (expected (pending_at entries (length before))).slot) [] (records_from (λ here. 8) 0 jdx)

pub slots_counted : (entries : List HeaderEntry) (jdx : List ℕ) → length (found_slots entries jdx) ≡ length (records_from (λ here. 8) 0 jdx)
slots_counted entries jdx = length-values (λ (before : List (List ℕ)) (here : List ℕ). (expected (pending_at entries (length before))).slot) [] (records_from (λ here. 8) 0 jdx)

pub slots_listed : (place : ℕ) (entries : List HeaderEntry) (jdx : List ℕ) → slots_at place 1024 entries jdx ≡ by_tests (pending_part place entries jdx) (found_slots entries jdx)
unfolding slots_at
slots_listed place entries jdx =
    let index : List (List ℕ) = records_from (λ here. 8) 0 jdx in
    let few : Rules = (Count, nat_lt slot_limit (length jdx / 8)) ∷ [] in
    let p : Pending = pending_at entries (length index) in
    let slots : List Slot = found_slots entries jdx in
    let walked : Tests = for_each (pending_tests place entries) [] index in
    let missing : Rules = (Missing, not (eqb (length p.entries) 0)) ∷ [] in
    let last = λ (found : List Slot × Pending). by_rules (jdx_file place) found.1.item ((Missing, not (eqb (length found.1.entries) 0)) ∷ []) found.0 in
    let read : walk (slot_at place) (first_pending entries) jdx ≡ by_tests walked (slots, p) =
    walk_listed (slot_at place) (λ before. pending_at entries (length before)) (λ before here. (expected (pending_at entries (length before))).slot) (λ here. 8) (pending_tests place entries) (slot_listed place entries) jdx 0 [] in
    let ended : last (slots, p) ≡ by_tests (at_record (jdx_file place) (length index) missing) slots =
    rules_listed (jdx_file place) p.item missing slots ∙ ap (λ (n : ℕ). by_tests (at_record (jdx_file place) n missing) slots) (pending_item entries (length index)) in
    let behind : (walk (slot_at place) (first_pending entries) jdx >>= last) ≡ by_tests (walked ++ at_record (jdx_file place) (length index) missing) slots =
    ap (λ (r : Result (List Slot × Pending) Damage). r >>= last) read ∙ then_listed walked (at_record (jdx_file place) (length index) missing) (slots, p) last slots (λ held. ended) in
    let next = λ (one : Unit {0}). walk (slot_at place) (first_pending entries) jdx >>= last in
    ap (λ (r : Result (Unit {0}) Damage). r >>= next) (rules_listed (jdx_file place) 0 few (tt {0}))
    ∙ then_listed (at_record (jdx_file place) 0 few) (walked ++ at_record (jdx_file place) (length index) missing) (tt {0}) next slots (λ held. behind)

-- ---- the same, by number
record Tracks (entries : List HeaderEntry) (n at : ℕ) (left : List HeaderEntry) : Type 0 where
  pub numbered : Numbered n left
  pub pairs : (m : ℕ) → n < m → pair_for m 1024 entries ≡ pair_for m at left
  pub above : (m : ℕ) → n ≤ m → has_greater m entries ≡ has_greater m left

-- no number is that small
pair_none : (m k at : ℕ) (left : List HeaderEntry) → m ≤ k → Numbered k left → pair_for m at left ≡ no_pair
pair_none m k at [] small rises = refl
pair_none m k at (e ∷ left) small rises =
    let other : eqb e.number m ≡ false = grind (arith, nat_tests, rises.0) in
    rw other (pair_none m e.number (at + header_size e.message) left (omega (arith, rises.0)) rises.2)

record Goes (entries : List HeaderEntry) (n : ℕ) (x : Expected) : Type 0 where
  pub item : x.next.item ≡ suc n
  pub tracks : Tracks entries (suc n) x.next.at x.next.entries
  pub pair : x.pair ≡ pair_for (1 + n) 1024 entries

goes_past : (entries : List HeaderEntry) (n at : ℕ) → Tracks entries n at [] → Goes entries n (none_here n at [])
goes_past entries n at t = record {
  item = omega arith;
  tracks = record { numbered = tt; pairs = λ m lt. t.pairs m (omega arith); above = λ m le. t.above m (omega arith) };
  pair = sym (t.pairs (1 + n) (omega arith));
}

goes_here : (entries : List HeaderEntry) (n at : ℕ) (e : HeaderEntry) (left : List HeaderEntry) → Tracks entries n at (e ∷ left) → e.number ≡ n + 1 → Goes entries n (one_here n at e left)
goes_here entries n at e left t is =
    let here : eqb e.number (1 + n) ≡ true = grind (arith, nat_tests) in
    let found : pair_for (1 + n) at (e ∷ left) ≡ pair_of e.message at = rw here refl in
    record {
      item = omega arith;
      tracks = record {
        numbered = subst (λ (k : ℕ). Numbered k left) (is ∙ add-one n) t.numbered.2;
        pairs = λ m lt. (let other : eqb e.number m ≡ false = grind (arith, nat_tests) in t.pairs m (omega arith) ∙ rw other refl);
        above = λ m le. (let low : ltb m e.number ≡ false = grind (arith, nat_tests) in t.above m (omega arith) ∙ rw low refl);
      };
      pair = sym (t.pairs (1 + n) (omega arith) ∙ found);
    }

goes_by : (entries : List HeaderEntry) (n at : ℕ) (e : HeaderEntry) (left : List HeaderEntry) → Tracks entries n at (e ∷ left) → eqb e.number (n + 1) ≡ false → Goes entries n (none_here n at (e ∷ left))
goes_by entries n at e left t other =
    let up : n < e.number = t.numbered.0 in
    let far : suc n < e.number = grind (arith, nat_tests) in
    let numbered : Numbered (suc n) (e ∷ left) = (far, t.numbered.1, t.numbered.2) in
    record {
      item = omega arith;
      tracks = record { numbered = numbered; pairs = λ m lt. t.pairs m (omega arith); above = λ m le. t.above m (omega arith) };
      pair = sym (t.pairs (1 + n) (omega arith) ∙ pair_none (1 + n) (suc n) at (e ∷ left) (omega arith) numbered);
    }

goes_either : (entries : List HeaderEntry) (n at : ℕ) (e : HeaderEntry) (left : List HeaderEntry) → Tracks entries n at (e ∷ left) → (same : Bool) → eqb e.number (n + 1) ≡ same
    → Goes entries n (cond same (one_here n at e left) (none_here n at (e ∷ left)))
goes_either entries n at e left t true is = goes_here entries n at e left t (eqb-true e.number (n + 1) is)
goes_either entries n at e left t false other = goes_by entries n at e left t other

goes_on : (entries : List HeaderEntry) (n at : ℕ) (left : List HeaderEntry) → Tracks entries n at left → Goes entries n (expected_of n at left)
unfolding expected_of
goes_on entries n at [] t = goes_past entries n at t
goes_on entries n at (e ∷ left) t = goes_either entries n at e left t (eqb e.number (n + 1)) refl

pending_tracks : (entries : List HeaderEntry) → Numbered 0 entries → (n : ℕ) → Tracks entries n (pending_at entries n).at (pending_at entries n).entries
pending_tracks entries rises zero = record { numbered = rises; pairs = λ m lt. refl; above = λ m le. refl }
pending_tracks entries rises (suc n) =
    let p : Pending = pending_at entries n in
    subst (λ (k : ℕ). Tracks entries (suc n) (expected_of k p.at p.entries).next.at (expected_of k p.at p.entries).next.entries) (sym (pending_item entries n))
    (goes_on entries n p.at p.entries (pending_tracks entries rises n)).tracks

pending_pair : (entries : List HeaderEntry) → Numbered 0 entries → (n : ℕ) → (expected (pending_at entries n)).pair ≡ pair_for (1 + n) 1024 entries
pending_pair entries rises n =
    let p : Pending = pending_at entries n in
    ap (λ (k : ℕ). (expected_of k p.at p.entries).pair) (pending_item entries n) ∙ (goes_on entries n p.at p.entries (pending_tracks entries rises n)).pair

-- some are left exactly where one has a number above the last record's
left_above : (n : ℕ) (left : List HeaderEntry) → Numbered n left → not (eqb (length left) 0) ≡ has_greater n left
left_above n [] rises = refl
left_above n (e ∷ left) rises =
    let high : ltb n e.number ≡ true = grind (arith, nat_tests, rises.0) in
    let some : eqb (suc (length left)) 0 ≡ false = grind (arith, nat_tests) in
    rw (high, some) refl

pending_missing : (entries : List HeaderEntry) → Numbered 0 entries → (n : ℕ) → not (eqb (length (pending_at entries n).entries) 0) ≡ has_greater n entries
pending_missing entries rises n =
    let t = pending_tracks entries rises n in
    left_above n (pending_at entries n).entries t.numbered ∙ sym (t.above n (omega arith))

-- ---- with the bodies, which numbers and pairs don't see
numbered_bodied : (last : ℕ) (entries : List HeaderEntry) (bytes : List ℕ) → Numbered last entries → Numbered last (bodied entries bytes)
numbered_bodied last [] bytes rises = tt
numbered_bodied last (e ∷ entries) bytes rises = (rises.0, rises.1, numbered_bodied e.number entries (drop e.text_len bytes) rises.2)

size_with : (m : Message) (body : List ℕ) → header_size (message_with m body) ≡ header_size m
unfolding header_size subfields_of
size_with m body = refl

pair_bodied : (m at : ℕ) (entries : List HeaderEntry) (bytes : List ℕ) → pair_for m at (bodied entries bytes) ≡ pair_for m at entries
pair_bodied m at [] bytes = refl
pair_bodied m at (e ∷ entries) bytes =
    let body : List ℕ = take e.text_len bytes in
    let rest : List HeaderEntry = bodied entries (drop e.text_len bytes) in
    ap (λ (n : ℕ). cond (eqb e.number m) (pair_of e.message at) (pair_for m (at + n) rest)) (size_with e.message body)
    ∙ ap (λ (others : IndexRecord). cond (eqb e.number m) (pair_of e.message at) others) (pair_bodied m (at + header_size e.message) entries (drop e.text_len bytes))

above_bodied : (m : ℕ) (entries : List HeaderEntry) (bytes : List ℕ) → has_greater m (bodied entries bytes) ≡ has_greater m entries
above_bodied m [] bytes = refl
above_bodied m (e ∷ entries) bytes = ap (λ (others : Bool). ltb m e.number || others) (above_bodied m entries (drop e.text_len bytes))

-- ---- one list and the other
same_each : (place : ℕ) (entries found : List HeaderEntry) → ((n : ℕ) → (expected (pending_at found n)).pair ≡ pair_for (1 + n) 1024 entries)
    → (rs before : List (List ℕ)) → for_each (pending_tests place found) before rs ≡ for_each (index_tests place entries) before rs
same_each place entries found same [] before = refl
same_each place entries found same (x ∷ rs) before =
    λ i. at_record (jdx_file place) (length before) (index_rules (same (length before) i) x) ++ same_each place entries found same rs (before ++ x ∷ []) i

-- the tests of .JDX, by numbers
abbrev pub index_part : ℕ → List HeaderEntry → List ℕ → Tests
index_part place entries jdx =
    let index = records_from (λ here. 8) 0 jdx in
    at_record (jdx_file place) 0 ((Count, nat_lt slot_limit (length jdx / 8)) ∷ [])
    ++ (for_each (index_tests place entries) [] index ++ at_record (jdx_file place) (length index) ((Missing, has_greater (length index) entries) ∷ []))

pub same_part : (place : ℕ) (entries : List HeaderEntry) (jdt jdx : List ℕ) → Numbered 0 entries → pending_part place (bodied entries jdt) jdx ≡ index_part place entries jdx
same_part place entries jdt jdx rises =
    let found : List HeaderEntry = bodied entries jdt in
    let index : List (List ℕ) = records_from (λ here. 8) 0 jdx in
    let stands : Numbered 0 found = numbered_bodied 0 entries jdt rises in
    let each = same_each place entries found (λ n. pending_pair found stands n ∙ pair_bodied (1 + n) 1024 entries jdt) index [] in
    let missing : not (eqb (length (pending_at found (length index)).entries) 0) ≡ has_greater (length index) entries =
    pending_missing found stands (length index) ∙ above_bodied (length index) entries jdt in
    λ i. at_record (jdx_file place) 0 ((Count, nat_lt slot_limit (length jdx / 8)) ∷ [])
    ++ (each i ++ at_record (jdx_file place) (length index) ((Missing, missing i) ∷ []))
