-- The tests of a header's parts in the code find the first broken rule of the whole header.
use Rattle.std.proofs.Common.{◌≡◌, ℕ, ◌+◌, ◌-◌, ◌≤◌, ◌<◌, true, cond, ltb, List, ◌++◌, length, take, drop, Option, Some, None, Result, Ok, Err, sym, ap, ◌∙◌, subst, arith, append_assoc}
use Rattle.std.proofs.lemmas.Bool.{le-ltb}
use Rattle.std.proofs.lemmas.Bool.Decides.{nat_tests}
use Rattle.jam_records.specs.declared.damage.Damage.{Damage}
use Rattle.jam_records.specs.declared.damage.DamageRule.{DamageRule}
use Rattle.jam_records.specs.declared.damage.DamageRule.TheVariants.{Subfields}
use Rattle.jam_records.specs.declared.message_header.MessageHeader.{MessageHeader}
use Rattle.damage_rules.specs.Rules.{Rules, first_broken, unless_broken, by_rules, ◌>>=◌}
use Rattle.jam_layout.specs.Limits.{slot_limit}
use Rattle.jam_layout.specs.Rules.{damage_of_base, BaseFails}
use Rattle.door_outside.specs.File.{jhr_file}
use Rattle.jam_layout.specs.declared.error.BaseError.{BaseError}
use Rattle.jam_layout.specs.declared.error.BaseError.TheVariants.{Damaged, OutOfMemory}
use Rattle.jam_records.specs.MessageHeaders.{message_header_at}
use Rattle.jam_records.specs.declared.message.Kind.{Kind}
use Rattle.jam_layout.specs.declared.entry.HeaderEntry.{HeaderEntry}
use Rattle.jam_layout.specs.declared.entry.Front.{Front}
use Rattle.jam_layout.specs.Fields.{values_at}
use Rattle.jam_layout.specs.Headers.{front_rules, field_rules, length_rules, value_rules, header_rules, values_of, entry_of, step_of, header_at}
use Rattle.jam_layout.specs.declared.fields.Values.{Values}
use Rattle.jam_layout.proofs.HeaderLaws.{keep}
use Rattle.damage_rules.proofs.KeptRules.{part_fails, then_fails, both_pass, in_parts, step_fails, rules_kept, kept_rules}

long_fails : (h : MessageHeader) (bytes : List ℕ) → length bytes < 76 + h.subfield_len → first_broken (length_rules h bytes) ≡ Some Subfields
unfolding length_rules
long_fails h bytes short = let t : ltb (length bytes) (76 + h.subfield_len) ≡ true = grind (arith, nat_tests) in ap (λ b. cond b (Some Subfields) None) t

long_passes : (h : MessageHeader) (bytes : List ℕ) → 76 + h.subfield_len ≤ length bytes → first_broken (length_rules h bytes) ≡ None
unfolding length_rules
long_passes h bytes long = ap (λ b. cond b (Some Subfields) None) (le-ltb _ _ long)

pub too_long : (file item : ℕ) (h : MessageHeader) (bytes : List ℕ) → length bytes < 76 + h.subfield_len
    → by_rules file item (length_rules h bytes ++ value_rules h (values_of h bytes)) (values_of h bytes) ≡ Err (record { file = file; item = item; rule = Subfields })
too_long file item h bytes short = part_fails file item (length_rules h bytes) (value_rules h (values_of h bytes)) Subfields (values_of h bytes) (long_fails h bytes short)

same_part : (h : MessageHeader) (bytes : List ℕ) (n : ℕ) (v : Values) → n ≡ h.subfield_len → v ≡ values_at (take n (drop 76 bytes)) → v ≡ values_of h bytes
same_part h bytes n v is e = e ∙ ap (λ k. values_at (take k (drop 76 bytes))) is

pub wrong_value : (file item : ℕ) (h : MessageHeader) (bytes : List ℕ) (v : Values) (r : DamageRule) → 76 + h.subfield_len ≤ length bytes → v ≡ values_at (take (76 + h.subfield_len - 76) (drop 76 bytes)) → first_broken (value_rules h v) ≡ Some r
    → by_rules file item (length_rules h bytes ++ value_rules h (values_of h bytes)) (values_of h bytes) ≡ Err (record { file = file; item = item; rule = r })
wrong_value file item h bytes v r long e f =
    let is : v ≡ values_of h bytes = same_part h bytes (76 + h.subfield_len - 76) v (omega arith) e in
    then_fails file item (length_rules h bytes) (value_rules h (values_of h bytes)) r (values_of h bytes) (long_passes h bytes long) (ap (λ (x : Values). first_broken (value_rules h x)) (sym is) ∙ f)

pub right_value : (file item : ℕ) (h : MessageHeader) (bytes : List ℕ) (v : Values) → 76 + h.subfield_len ≤ length bytes → v ≡ values_at (take (76 + h.subfield_len - 76) (drop 76 bytes)) → first_broken (value_rules h v) ≡ None
    → by_rules file item (length_rules h bytes ++ value_rules h (values_of h bytes)) (values_of h bytes) ≡ Ok v
right_value file item h bytes v long e f =
    let is : v ≡ values_of h bytes = same_part h bytes (76 + h.subfield_len - 76) v (omega arith) e in
    both_pass file item (length_rules h bytes) (value_rules h (values_of h bytes)) (values_of h bytes) (long_passes h bytes long) (ap (λ (x : Values). first_broken (value_rules h x)) (sym is) ∙ f) ∙ ap (λ (x : Values). Ok x) (sym is)

-- ---- the fixed part
pub fixed_fails : (file item : ℕ) (kind : Kind) (f : Front) (bytes : List ℕ) (h x : MessageHeader) (r : DamageRule) → h ≡ message_header_at bytes → first_broken (front_rules bytes) ≡ None → Some r ≡ first_broken (field_rules kind f h)
    → by_rules file item (front_rules bytes ++ field_rules kind f (message_header_at bytes)) x ≡ Err (record { file = file; item = item; rule = r })
fixed_fails file item kind f bytes h x r is e g =
    then_fails file item (front_rules bytes) (field_rules kind f (message_header_at bytes)) r x e (ap (λ (y : MessageHeader). first_broken (field_rules kind f y)) (sym is) ∙ sym g)

-- ---- the whole header
abbrev failed : {A : Type 0} → A → Damage → Result A Damage
failed x d = Err d

same_damage : {A : Type 0} (a d : Damage) (x : A) → failed x a ≡ failed x d → a ≡ d
same_damage a d x e = cc

pub value_free : {A B : Type 0} (e : BaseError) (file item : ℕ) (o : Option DamageRule) (x : A) (y : B) → BaseFails e (unless_broken file item o x) → BaseFails e (unless_broken file item o y)
value_free OutOfMemory file item o x y h = tt
value_free (Damaged d) file item None x y h = absurd cc
value_free (Damaged d) file item (Some r) x y h = ap (λ k. Err k) (same_damage (record { file = file; item = item; rule = r }) d x h)

abbrev pub fixed : ℕ → Kind → Front → List ℕ → Result MessageHeader Damage
fixed place kind f bytes = by_rules (jhr_file place) f.item (front_rules bytes ++ field_rules kind f (message_header_at bytes)) (message_header_at bytes)

abbrev pub behind_fixed : ℕ → Front → List ℕ → MessageHeader → Result Values Damage
behind_fixed place f bytes h = by_rules (jhr_file place) f.item (length_rules h bytes ++ value_rules h (values_of h bytes)) (values_of h bytes)

split : (place : ℕ) (kind : Kind) (f : Front) (bytes : List ℕ) → let h = message_header_at bytes in
    header_at place kind f bytes ≡ (fixed place kind f bytes >>= λ x. by_rules (jhr_file place) f.item (length_rules h bytes ++ value_rules h (values_of h bytes)) (step_of f h (values_of h bytes)))
unfolding header_at
split place kind f bytes =
    let h : MessageHeader = message_header_at bytes in
    let v : Values = values_of h bytes in
    let last : Rules = length_rules h bytes ++ value_rules h v in
    ap (λ rules. by_rules (jhr_file place) f.item rules (step_of f h v)) (sym (append_assoc (front_rules bytes) (field_rules kind f h) last))
    ∙ in_parts (jhr_file place) f.item (front_rules bytes ++ field_rules kind f h) last h (step_of f h v)

pub fixed_stops : (place : ℕ) (kind : Kind) (f : Front) (bytes : List ℕ) (e : BaseError) → BaseFails e (fixed place kind f bytes) → BaseFails e (header_at place kind f bytes)
fixed_stops place kind f bytes e h =
    let x : MessageHeader = message_header_at bytes in
    rw (split place kind f bytes) (step_fails (damage_of_base e) (fixed place kind f bytes) (λ y. by_rules (jhr_file place) f.item (length_rules x bytes ++ value_rules x (values_of x bytes)) (step_of f x (values_of x bytes))) h)

fixed_is : (place : ℕ) (kind : Kind) (f : Front) (bytes : List ℕ) (h : MessageHeader) → fixed place kind f bytes ≡ Ok h → message_header_at bytes ≡ h
fixed_is place kind f bytes h e = (rules_kept (jhr_file place) f.item (front_rules bytes ++ field_rules kind f (message_header_at bytes)) (message_header_at bytes) h e).1

behind_it : (place : ℕ) (kind : Kind) (f : Front) (bytes : List ℕ) (h : MessageHeader) → fixed place kind f bytes ≡ Ok h → header_at place kind f bytes ≡ by_rules (jhr_file place) f.item (length_rules h bytes ++ value_rules h (values_of h bytes)) (step_of f h (values_of h bytes))
behind_it place kind f bytes h e =
    let x : MessageHeader = message_header_at bytes in
    split place kind f bytes
    ∙ (ap (λ r. r >>= λ y. by_rules (jhr_file place) f.item (length_rules x bytes ++ value_rules x (values_of x bytes)) (step_of f x (values_of x bytes))) e
    ∙ ap (λ (y : MessageHeader). by_rules (jhr_file place) f.item (length_rules y bytes ++ value_rules y (values_of y bytes)) (step_of f y (values_of y bytes))) (fixed_is place kind f bytes h e))

pub values_stop : (place : ℕ) (kind : Kind) (f : Front) (bytes : List ℕ) (h : MessageHeader) (e : BaseError) → fixed place kind f bytes ≡ Ok h → BaseFails e (behind_fixed place f bytes h) → BaseFails e (header_at place kind f bytes)
values_stop place kind f bytes h e is fails =
    rw (behind_it place kind f bytes h is) (value_free e (jhr_file place) f.item (first_broken (length_rules h bytes ++ value_rules h (values_of h bytes))) (values_of h bytes) (step_of f h (values_of h bytes)) fails)

pub header_read : (place : ℕ) (kind : Kind) (f : Front) (bytes : List ℕ) (h : MessageHeader) (v : Values) → fixed place kind f bytes ≡ Ok h → behind_fixed place f bytes h ≡ Ok v → header_at place kind f bytes ≡ Ok (step_of f h v)
header_read place kind f bytes h v is values =
    let k = rules_kept (jhr_file place) f.item (length_rules h bytes ++ value_rules h (values_of h bytes)) (values_of h bytes) v values in
    behind_it place kind f bytes h is ∙ (kept_rules (jhr_file place) f.item (length_rules h bytes ++ value_rules h (values_of h bytes)) (step_of f h (values_of h bytes)) k.0 ∙ ap (λ (y : Values). Ok (step_of f h y)) k.1)

pub record Bounds (f : Front) (e : HeaderEntry) : Type 0 where
  pub rising : f.last < e.number
  pub few : e.number ≤ slot_limit
  pub text : e.text_len ≤ 16384

-- what a header that keeps the rules is bounded by
pub header_bounds : (place : ℕ) (kind : Kind) (f : Front) (bytes : List ℕ) (h : MessageHeader) (v : Values) → fixed place kind f bytes ≡ Ok h → behind_fixed place f bytes h ≡ Ok v → Bounds f (entry_of h v)
unfolding entry_of header_at
header_bounds place kind f bytes h v is values =
    let read = header_read place kind f bytes h v is values in
    let k = rules_kept (jhr_file place) f.item (header_rules kind f bytes) (step_of f (message_header_at bytes) (values_of (message_header_at bytes) bytes)) (step_of f h v) read in
    let facts = keep kind f bytes k.0 in
    let same : message_header_at bytes ≡ h = fixed_is place kind f bytes h is in
    record {
      rising = subst (λ (x : MessageHeader). f.last < x.number) same facts.rising;
      few = subst (λ (x : MessageHeader). x.number ≤ slot_limit) same facts.few;
      text = subst (λ (x : MessageHeader). x.text_len ≤ 16384) same facts.text;
    }
