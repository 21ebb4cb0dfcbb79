-- What is read of another tool's base is such as a conference may hold: its texts and bodies are right.
use Rattle.std.proofs.Common.{◌≡◌, ◌⊎◌, inl, inr, ⊎_elim, ℕ, zero, suc, ◌+◌, ◌-◌, ◌/◌, ◌≤◌, Bool, true, false, ◌&&◌, cond, leb, ltb, eqb, List, [], ◌∷◌, ◌++◌, length, map, get_or, take, drop, Option, Some, None, refl, arith, length-append}
use Rattle.std.specs.Prelude.{codes, slice_range, unwrap_or}
use Rattle.std.specs.List.{list_all, suffix_len}
use Rattle.std.proofs.lemmas.Bool.{and_from, eq-eqb, eqb-false, eqb-true, le-leb, ltb-false, or_cases, or_left, or_right}
use Rattle.std.proofs.lemmas.List.{get_or_push, length-map, length-take}
use Rattle.std.proofs.lemmas.List.Elements.{All-append, All-cons, All-nil}
use Rattle.jam_adopt.specs.Bodies.{ended_text, is_ended, without_feeds}
use Rattle.jam_adopt.specs.Fields.{fields_of, value_of_id}
use Rattle.jam_adopt.specs.Foreign.{foreign, foreign_from, found_at, is_no_header, verdict_of}
use Rattle.jam_adopt.specs.Values.{kept_address, kept_id, kept_name, kept_text, printable}
use Rattle.jam_adopt.specs.Verdicts.{body_in, field_bytes, first_holding, header_in, adopted_message, rules_behind, taken_unless_refused, verdict_at, verdict_behind, verdict_on_header, wrong_subfields, wrong_header, wrong_length, text_past_end}
use Rattle.jam_adopt.specs.declared.found.ForeignRule.TheVariants as rule
use Rattle.jam_adopt.specs.declared.found.Found.{Found}
use Rattle.jam_adopt.specs.declared.found.FoundVerdict.{FoundVerdict}
use Rattle.jam_adopt.specs.declared.found.FoundVerdict.TheVariants.{Taken, Refused}
use Rattle.jam_layout.specs.Address.{is_address}
use Rattle.jam_layout.specs.Fields.{is_text}
use Rattle.jam_layout.specs.Marks.{marks_of}
use Rattle.jam_records.specs.IndexRecords.{index_at}
use Rattle.jam_records.specs.declared.index_record.IndexRecord.{IndexRecord}
use Rattle.jam_records.specs.declared.message.Message.{Message}
use Rattle.jam_records.specs.declared.message_header.MessageHeader.{MessageHeader}
use Rattle.jam_records.specs.declared.subfield.Subfield.{Subfield}
use Rattle.setup_file.specs.Words.{before_spaces, is_space}
use Rattle.post_changes.specs.slot_changes.Values.{has_right_texts, is_empty_or, is_right_body}
use Rattle.cmd_adopt.specs.Adopting.{AreRight, IsRight}

-- ---- texts
shown : (b : ℕ) → leb 0x20 (printable b) ≡ true
shown b = by (ltb b 0x20) refl
  where
    by : (low : Bool) → ltb b 0x20 ≡ low → leb 0x20 (cond low 0x3F b) ≡ true
    by true is = refl
    by false is = le-leb 0x20 b (ltb-false b 0x20 is)

all_shown : (text : List ℕ) → list_all (λ b. leb 0x20 b) (map printable text) ≡ true
all_shown [] = refl
all_shown (b ∷ text) = and_from (leb 0x20 (printable b)) (list_all (λ c. leb 0x20 c) (map printable text)) (shown b) (all_shown text)

kept_short : (most : ℕ) (value : List ℕ) → length (kept_text most value) ≤ most
kept_short most value =
    let front : List ℕ = take most value in
    omega (arith, length-map (before_spaces front) printable, length-take (length front - suffix_len is_space front) front, length-take most value)

text_is : (most : ℕ) (text : List ℕ) → 1 ≤ length text → length text ≤ most → list_all (λ b. leb 0x20 b) text ≡ true → is_text most text ≡ true
unfolding is_text
text_is most text some short all = and_from (leb 1 (length text) && leb (length text) most) (list_all (λ b. leb 0x20 b) text) (and_from (leb 1 (length text)) (leb (length text) most) (le-leb 1 (length text) some) (le-leb (length text) most short)) all

kept_is : (most : ℕ) (value : List ℕ) → eqb (length (kept_text most value)) 0 ≡ false → is_text most (kept_text most value) ≡ true
kept_is most value some = text_is most (kept_text most value) (omega (arith, eqb-false (length (kept_text most value)) 0 some)) (kept_short most value) (all_shown (before_spaces (take most value)))

subject_right : (most : ℕ) (value : List ℕ) → is_empty_or (is_text most) (kept_text most value) ≡ true
subject_right most value = by (eqb (length (kept_text most value)) 0) refl
  where
    by : (none : Bool) → eqb (length (kept_text most value)) 0 ≡ none → is_empty_or (is_text most) (kept_text most value) ≡ true
    by true is = or_left (eqb (length (kept_text most value)) 0) (is_text most (kept_text most value)) is
    by false is = or_right (eqb (length (kept_text most value)) 0) (is_text most (kept_text most value)) (kept_is most value is)

name_right : (missing value : List ℕ) → is_text 36 missing ≡ true → is_text 36 (kept_name missing value) ≡ true
name_right missing value right = by (eqb (length (kept_text 36 value)) 0) refl
  where
    by : (none : Bool) → eqb (length (kept_text 36 value)) 0 ≡ none → is_text 36 (cond none missing (kept_text 36 value)) ≡ true
    by true is = right
    by false is = kept_is 36 value is

-- what stands in place of a name
unknown_right : is_text 36 (codes "Unknown") ≡ true
unfolding is_text
unknown_right = refl

all_right : is_text 36 (codes "All") ≡ true
unfolding is_text
all_right = refl

-- a value that passes is kept, and nothing of another one
passing_right : (test : List ℕ → Bool) (value : List ℕ) → is_empty_or test (cond (test value) value []) ≡ true
passing_right test value = by (test value) refl
  where
    by : (passes : Bool) → test value ≡ passes → is_empty_or test (cond passes value []) ≡ true
    by true is = or_right (eqb (length value) 0) (test value) is
    by false is = or_left (eqb (length {A = ℕ} []) 0) (test []) refl

-- ---- bodies
body_is : (body : List ℕ) → length body ≤ 16384 → (length body ≡ 0) ⊎ (get_or body (length body - 1) 0 ≡ 0x0D) → is_right_body body ≡ true
unfolding is_right_body
body_is body short ended =
    ⊎_elim
    (λ none. or_left (eqb (length body) 0) _ (eq-eqb (length body) 0 none))
    (λ last. or_right (eqb (length body) 0) _ (and_from (leb (length body) 16384) (eqb (get_or body (length body - 1) 0) 0x0D) (le-leb (length body) 16384 short) (eq-eqb (get_or body (length body - 1) 0) 0x0D last)))
    ended

ended_right : (text : List ℕ) → length (ended_text text) ≤ 16384 → is_right_body (ended_text text) ≡ true
ended_right text = by (is_ended text) refl
  where
    by : (ended : Bool) → is_ended text ≡ ended → length (cond ended text (text ++ 0x0D ∷ [])) ≤ 16384 → is_right_body (cond ended text (text ++ 0x0D ∷ [])) ≡ true
    by true is short =
        body_is text short (⊎_elim (λ none. inl (eqb-true (length text) 0 none)) (λ last. inr (eqb-true (get_or text (length text - 1) 0) 0x0D last)) (or_cases (eqb (length text) 0) (eqb (get_or text (length text - 1) 0) 0x0D) is))
    by false is short = body_is (text ++ 0x0D ∷ []) short (inr (get_or_push text 0x0D 0 (length (text ++ 0x0D ∷ []) - 1) (omega (arith, length-append text (0x0D ∷ [])))))

-- ---- a message
texts_right : (h : MessageHeader) (fields : List Subfield) (body : List ℕ) → has_right_texts (adopted_message h fields body) ≡ true
unfolding has_right_texts adopted_message
texts_right h fields body =
    let from : List ℕ = kept_name (codes "Unknown") (value_of_id 2 fields) in
    let to : List ℕ = kept_name (codes "All") (value_of_id 3 fields) in
    let origin : List ℕ = kept_address (value_of_id 0 fields) in
    let destination : List ℕ = kept_address (value_of_id 1 fields) in
    let msgid : List ℕ = kept_id (value_of_id 4 fields) in
    let replyid : List ℕ = kept_id (value_of_id 5 fields) in
    let subject : List ℕ = kept_text 72 (value_of_id 6 fields) in
    and_from ((is_text 36 from && is_text 36 to) && (is_empty_or is_address origin && is_empty_or is_address destination)) ((is_empty_or (is_text 80) msgid && is_empty_or (is_text 80) replyid) && is_empty_or (is_text 72) subject)
    (and_from (is_text 36 from && is_text 36 to) (is_empty_or is_address origin && is_empty_or is_address destination)
    (and_from (is_text 36 from) (is_text 36 to) (name_right (codes "Unknown") (value_of_id 2 fields) unknown_right) (name_right (codes "All") (value_of_id 3 fields) all_right))
    (and_from (is_empty_or is_address origin) (is_empty_or is_address destination) (passing_right is_address (value_of_id 0 fields)) (passing_right is_address (value_of_id 1 fields))))
    (and_from (is_empty_or (is_text 80) msgid && is_empty_or (is_text 80) replyid) (is_empty_or (is_text 72) subject)
    (and_from (is_empty_or (is_text 80) msgid) (is_empty_or (is_text 80) replyid) (passing_right (is_text 80) (value_of_id 4 fields)) (passing_right (is_text 80) (value_of_id 5 fields))) (subject_right 72 (value_of_id 6 fields)))

short_right : (h : MessageHeader) (fields : List Subfield) (text : List ℕ) → length (ended_text text) ≤ 16384 → IsRight (Taken (adopted_message h fields (ended_text text)))
unfolding adopted_message
short_right h fields text short = (texts_right h fields (ended_text text), ended_right text short)

-- ---- verdicts
-- the message of a header that no rule refuses is right
unrefused_right : (fields text long : Bool) (m : Message) → (long ≡ false → IsRight (Taken m)) → IsRight (taken_unless_refused (first_holding ((rule.Subfields, fields) ∷ (rule.Text, text) ∷ (rule.Length, long) ∷ [])) m)
unrefused_right true text long m right = tt
unrefused_right false true long m right = tt
unrefused_right false false true m right = tt
unrefused_right false false false m right = right refl

behind_right : (jhr jdt : List ℕ) (at : ℕ) (h : MessageHeader) → IsRight (verdict_behind jhr jdt at h)
unfolding verdict_behind rules_behind
behind_right jhr jdt at h =
    let fields : List Subfield = unwrap_or (fields_of (field_bytes jhr at h)) [] in
    let text : List ℕ = slice_range jdt h.offset (h.offset + h.text_len) in
    unrefused_right (wrong_subfields jhr at h) (text_past_end jdt h) (wrong_length jdt h) (adopted_message h fields (body_in jdt h)) (λ few. short_right h fields (without_feeds text) (ltb-false 16384 (length (body_in jdt h)) few))

-- a verdict, where there is one
abbrev IsRightWhere : Option FoundVerdict → Type 0
IsRightWhere None = Unit {0}
IsRightWhere (Some verdict) = IsRight verdict

either_right : (test : Bool) (one other : Option FoundVerdict) → IsRightWhere one → IsRightWhere other → IsRightWhere (cond test one other)
either_right true one other first second = first
either_right false one other first second = second

at_right : (jhr jdt : List ℕ) (at : ℕ) → IsRightWhere (verdict_at jhr jdt at)
unfolding verdict_at
at_right jhr jdt at =
    let h : MessageHeader = header_in jhr at in
    either_right (wrong_header jhr at) (Some (Refused rule.Header)) (verdict_on_header jhr jdt at h) tt (either_right (marks_of h.attribute).deleted None (Some (verdict_behind jhr jdt at h)) tt (behind_right jhr jdt at h))

of_right : (jhr jdt : List ℕ) (r : IndexRecord) → IsRightWhere (verdict_of jhr jdt r)
unfolding verdict_of
of_right jhr jdt r = either_right (is_no_header r) None (verdict_at jhr jdt r.offset) tt (at_right jhr jdt r.offset)

-- ---- records
abbrev IsRightFound : Found → Type 0
IsRightFound found = IsRight found.verdict

found_right : (place : ℕ) (verdict : Option FoundVerdict) → IsRightWhere verdict → AreRight (found_at place verdict)
found_right place None right = All-nil IsRightFound
found_right place (Some verdict) right = All-cons IsRightFound (record { place = place; verdict = verdict }) [] right (All-nil IsRightFound)

from_right : (jhr jdt : List ℕ) (place count : ℕ) (jdx : List ℕ) → AreRight (foreign_from jhr jdt place count jdx)
unfolding foreign_from
from_right jhr jdt place zero jdx = All-nil IsRightFound
from_right jhr jdt place (suc count) jdx =
    All-append IsRightFound (found_at place (verdict_of jhr jdt (index_at jdx))) (foreign_from jhr jdt (place + 1) count (drop 8 jdx)) (found_right place (verdict_of jhr jdt (index_at jdx)) (of_right jhr jdt (index_at jdx)))
    (from_right jhr jdt (place + 1) count (drop 8 jdx))

pub foreign_right : (jhr jdt jdx : List ℕ) → AreRight (foreign jhr jdt jdx)
unfolding foreign
foreign_right jhr jdt jdx = from_right jhr jdt 1 (length jdx / 8) jdx
