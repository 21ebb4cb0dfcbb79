-- The first of the rules behind that of the header, or the message.
use Rattle.std.proofs.Common.{◌≡◌, ℕ, ◌+◌, ◌<◌, ◌≤◌, true, false, not, ltb, List, [], length, Option, Some, None, refl, sym, ap, ◌∙◌}
use Rattle.std.specs.Prelude.{unwrap_or, is_some, slice_range}
use Rattle.std.proofs.lemmas.Bool.{lt-ltb, le-ltb, ltb-false, cond-true, cond-false}
use Rattle.jam_records.specs.declared.message.Message.{Message}
use Rattle.jam_records.specs.declared.message_header.MessageHeader.{MessageHeader}
use Rattle.jam_records.specs.declared.subfield.Subfield.{Subfield}
use Rattle.jam_adopt.specs.Bodies.{without_feeds, ended_text}
use Rattle.jam_adopt.specs.Fields.{fields_of}
use Rattle.jam_adopt.specs.Verdicts.{wrong_subfields, text_past_end, wrong_length, field_bytes, body_in, first_holding, rules_behind, taken_unless_refused, adopted_message, verdict_behind}
use Rattle.jam_adopt.specs.declared.found.ForeignRule.TheVariants as rule
use Rattle.jam_adopt.specs.declared.found.FoundVerdict.TheVariants.{Taken, Refused}
use Rattle.jam_adopt.proofs.HeaderTests.{or_false, not_false}

first_is : (jhr jdt : List ℕ) (at : ℕ) (h : MessageHeader) → wrong_subfields jhr at h ≡ true → first_holding (rules_behind jhr jdt at h) ≡ Some rule.Subfields
unfolding rules_behind
first_is jhr jdt at h fields = cond-true (wrong_subfields jhr at h) (Some rule.Subfields) _ fields

second_is : (jhr jdt : List ℕ) (at : ℕ) (h : MessageHeader) → wrong_subfields jhr at h ≡ false → text_past_end jdt h ≡ true → first_holding (rules_behind jhr jdt at h) ≡ Some rule.Text
unfolding rules_behind
second_is jhr jdt at h fields text = cond-false (wrong_subfields jhr at h) _ _ fields ∙ cond-true (text_past_end jdt h) (Some rule.Text) _ text

third_is : (jhr jdt : List ℕ) (at : ℕ) (h : MessageHeader) → wrong_subfields jhr at h ≡ false → text_past_end jdt h ≡ false → wrong_length jdt h ≡ true → first_holding (rules_behind jhr jdt at h) ≡ Some rule.Length
unfolding rules_behind
third_is jhr jdt at h fields text len =
    cond-false (wrong_subfields jhr at h) _ _ fields ∙ (cond-false (text_past_end jdt h) _ _ text ∙ cond-true (wrong_length jdt h) (Some rule.Length) _ len)

none_is : (jhr jdt : List ℕ) (at : ℕ) (h : MessageHeader) → wrong_subfields jhr at h ≡ false → text_past_end jdt h ≡ false → wrong_length jdt h ≡ false → first_holding (rules_behind jhr jdt at h) ≡ None
unfolding rules_behind
none_is jhr jdt at h fields text len =
    cond-false (wrong_subfields jhr at h) _ _ fields ∙ (cond-false (text_past_end jdt h) _ _ text ∙ cond-false (wrong_length jdt h) _ _ len)

-- the message where no rule holds
abbrev whole_message : List ℕ → List ℕ → ℕ → MessageHeader → Message
whole_message jhr jdt at h = adopted_message h (unwrap_or (fields_of (field_bytes jhr at h)) []) (body_in jdt h)

pub refused_fields : (jhr jdt : List ℕ) (at : ℕ) (h : MessageHeader) → wrong_subfields jhr at h ≡ true → Refused rule.Subfields ≡ verdict_behind jhr jdt at h
unfolding verdict_behind
refused_fields jhr jdt at h fields = sym (ap (λ r. taken_unless_refused r (whole_message jhr jdt at h)) (first_is jhr jdt at h fields))

pub refused_text : (jhr jdt : List ℕ) (at : ℕ) (h : MessageHeader) → wrong_subfields jhr at h ≡ false → length jdt < h.offset + h.text_len → Refused rule.Text ≡ verdict_behind jhr jdt at h
unfolding verdict_behind
refused_text jhr jdt at h fields past = sym (ap (λ r. taken_unless_refused r (whole_message jhr jdt at h)) (second_is jhr jdt at h fields (lt-ltb (length jdt) (h.offset + h.text_len) past)))

pub refused_length : (jhr jdt : List ℕ) (at : ℕ) (h : MessageHeader) (text : List ℕ) → wrong_subfields jhr at h ≡ false → h.offset + h.text_len ≤ length jdt
    → text ≡ without_feeds (slice_range jdt h.offset (h.offset + h.text_len)) → ltb 16384 (length (ended_text text)) ≡ true → Refused rule.Length ≡ verdict_behind jhr jdt at h
unfolding verdict_behind
refused_length jhr jdt at h text right within is long =
    let len : wrong_length jdt h ≡ true = sym (ap (λ xs. ltb 16384 (length (ended_text xs))) is) ∙ long in
    sym (ap (λ r. taken_unless_refused r (whole_message jhr jdt at h)) (third_is jhr jdt at h right (le-ltb (length jdt) (h.offset + h.text_len) within) len))

-- ---- where no rule holds
some_of : (found : Option (List Subfield)) → is_some found ≡ true → (fields : List Subfield) × (found ≡ Some fields)
some_of None e = absurd cc
some_of (Some fields) e = (fields, refl)

-- the subfields are all there, and fill their bytes
pub right_fields : (jhr : List ℕ) (at : ℕ) (h : MessageHeader) → wrong_subfields jhr at h ≡ false
    → (at + 76 + h.subfield_len ≤ length jhr) × ((fields : List Subfield) × (fields_of (field_bytes jhr at h) ≡ Some fields))
unfolding wrong_subfields
right_fields jhr at h right =
    let found : Option (List Subfield) = fields_of (field_bytes jhr at h) in
    let both = or_false (ltb (length jhr) (at + 76 + h.subfield_len)) (not (is_some found)) right in
    (ltb-false (length jhr) (at + 76 + h.subfield_len) both.0, some_of found (not_false (is_some found) both.1))

pub taken_message : (jhr jdt : List ℕ) (at : ℕ) (h : MessageHeader) (text : List ℕ) (m : Message) → wrong_subfields jhr at h ≡ false → h.offset + h.text_len ≤ length jdt
    → text ≡ without_feeds (slice_range jdt h.offset (h.offset + h.text_len)) → ltb 16384 (length (ended_text text)) ≡ false
    → ((fields : List Subfield) → fields_of (field_bytes jhr at h) ≡ Some fields → m ≡ adopted_message h fields (ended_text text)) → Taken m ≡ verdict_behind jhr jdt at h
unfolding verdict_behind
taken_message jhr jdt at h text m right within is short made =
    let found = (right_fields jhr at h right).1 in
    let body : ended_text text ≡ body_in jdt h = ap ended_text is in
    let len : wrong_length jdt h ≡ false = sym (ap (λ xs. ltb 16384 (length xs)) body) ∙ short in
    let same : m ≡ whole_message jhr jdt at h
    = made found.0 found.1 ∙ (ap (λ xs. adopted_message h found.0 xs) body ∙ ap (λ fields. adopted_message h (unwrap_or fields []) (body_in jdt h)) (sym found.1)) in
    ap (λ x. Taken x) same ∙ sym (ap (λ r. taken_unless_refused r (whole_message jhr jdt at h)) (none_is jhr jdt at h right (le-ltb (length jdt) (h.offset + h.text_len) within) len))
