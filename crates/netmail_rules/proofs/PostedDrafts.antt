-- A draft that no rule refuses is a message that its conference may hold.
use Rattle.std.proofs.Common.{◌≡◌, ℕ, ◌-◌, ◌<◌, ◌≤◌, Bool, true, false, not, cond, ◌&&◌, ◌||◌, leb, ltb, eqb, is_none, Option, Some, None, List, [], ◌∷◌, ◌++◌, length, get_or, refl, sym, ap, ◌∙◌, subst, inl, inr, arith, length-append, append_assoc}
use Rattle.std.proofs.lemmas.Bool.{leb-true, leb-false, le-leb, ltb-false, and_parts, and_from}
use Rattle.std.proofs.lemmas.List.{append-nil, get_or_push}
use Rattle.std.specs.List.{list_all}
use Rattle.std.specs.Prelude.{IsTrue}
use Rattle.qwk_blocks.specs.declared.message.QwkMessage.{QwkMessage}
use Rattle.jam_records.specs.declared.message.Message.{Message}
use Rattle.setup_file.specs.Texts.{is_user_name, is_name_byte, has_bare_ends}
use Rattle.jam_layout.proofs.AddressLaws.{is_test}
use Rattle.damage_rules.proofs.BoolTests.{or_false, not_not}
use Rattle.jam_layout.specs.Address.{is_address}
use Rattle.jam_layout.specs.Fields.{is_text}
use Rattle.jam_layout.specs.Limits.{slot_limit}
use Rattle.jam_layout.specs.Messages.{EmptyOr, IsBody, IsMessage, IsTyped}
use Rattle.netmail_rules.specs.AddressLine.{is_plain, net_line}
use Rattle.netmail_rules.specs.Draft.{is_net_view, is_netmail, netmail_line, first_line, recipient_of, destination_of, kept_line, kept_lines, kept_body, draft_of}
use Rattle.netmail_rules.specs.Fits.{IsView, HasShortTexts, with_msgid}
use Rattle.netmail_rules.specs.Verdict.{unless_refused, plain_verdict, verdict}
use Rattle.netmail_rules.specs.Rules.{first_refusing, new_bytes, rules_before, rules_in}
use Rattle.qwk_blocks.specs.Status.{private_status, comment_status}
use Rattle.netmail_rules.specs.declared.net_line.NetLine.{NetLine}
use Rattle.netmail_rules.specs.declared.rule.Rule.{Rule}
use Rattle.netmail_rules.specs.declared.verdict.Verdict.TheVariants.{Post}
use Rattle.netmail_rules.specs.declared.view.ConferenceView.{ConferenceView}
use Rattle.netmail_rules.specs.declared.view.View.{View}
use Rattle.long_names.specs.Plain.{plain}
use Rattle.long_names.proofs.LongValues.{long_is}
use Rattle.long_names.proofs.PlainValues.{to_keeps, subject_keeps}
use Rattle.netmail_rules.proofs.PostedNames.{chosen, names_well}

-- ---- no rule refuses
was_posted : (o : Option Rule) (d e : Message) → unless_refused o d ≡ Post e → (o ≡ None) × (d ≡ e)
was_posted None d e is = (refl, cc)
was_posted (Some r) d e is = absurd (cc)

NoneRefuses : List (Rule × Bool) → Type 0
NoneRefuses [] = Unit {0}
NoneRefuses (r ∷ rules) = (r.1 ≡ false) × NoneRefuses rules

none_refuses : (rules : List (Rule × Bool)) → first_refusing rules ≡ None → NoneRefuses rules
unfolding NoneRefuses
none_refuses [] e = tt
none_refuses ((r, true) ∷ rules) e = absurd (cc)
none_refuses ((r, false) ∷ rules) e = (refl, none_refuses rules e)

-- what the rules leave of a draft
record Passed (v : View) (c : ConferenceView) (q : QwkMessage) (d : Message) : Type 0 where
  to : ((not (is_netmail v) && not (comment_status q.header.status)) && (eqb (length q.header.to) 0 || not (is_plain q.header.to))) ≡ false
  subject : not (is_plain q.header.subject) ≡ false
  body : ltb 16384 (length d.body) ≡ false
  address : (is_netmail v && is_none (netmail_line v q)) ≡ false
  full : (leb slot_limit c.slots || ltb v.room (new_bytes d c.msgid_len)) ≡ false

passed_in : (v : View) (c : ConferenceView) (q : QwkMessage) (d : Message) → first_refusing (rules_before v q ++ rules_in v (Some c) q d) ≡ None → Passed v c q d
unfolding NoneRefuses
passed_in v c q d e =
    let all : NoneRefuses (rules_before v q ++ rules_in v (Some c) q d) = none_refuses (rules_before v q ++ rules_in v (Some c) q d) e in
    let from_to = all.1.1.1.1.1.1 in
    record { to = from_to.0; subject = from_to.1.0; body = from_to.1.1.0; address = from_to.1.1.1.1.1.0; full = from_to.1.1.1.1.1.1.1.0 }

-- ---- texts
weaker : (p r : ℕ → Bool) → ((b : ℕ) → p b ≡ true → r b ≡ true) → (text : List ℕ) → list_all p text ≡ true → list_all r text ≡ true
weaker p r f [] e = refl
weaker p r f (b ∷ text) e = let parts = and_parts (p b) (list_all p text) e in and_from (r b) (list_all r text) (f b parts.0) (weaker p r f text parts.1)

name_byte_plain : (b : ℕ) → is_name_byte b ≡ true → leb 0x20 b ≡ true
name_byte_plain b e = (and_parts (leb 0x20 b) (leb b 0x7E) (and_parts (leb 0x20 b && leb b 0x7E) (not (eqb b 0x22)) e).0).0

make_text : (most : ℕ) (text : List ℕ) → 1 ≤ length text → length text ≤ most → is_plain text ≡ true → is_text most text ≡ true
unfolding is_text
make_text most text some short plain =
    and_from (leb 1 (length text) && leb (length text) most) (is_plain text) (and_from (leb 1 (length text)) (leb (length text) most) (le-leb 1 (length text) some) (le-leb (length text) most short)) plain

user_text : (name : List ℕ) → is_user_name name ≡ true → is_text 36 name ≡ true
unfolding is_user_name
user_text name e =
    let parts = and_parts (leb (length name) 25) (list_all is_name_byte name && has_bare_ends name) e in
    let inner = and_parts (list_all is_name_byte name) (has_bare_ends name) parts.1 in
    let short : length name ≤ 25 = leb-true (length name) 25 parts.0 in
    let some : 1 ≤ length name = leb-true 1 (length name) (and_parts (leb 1 (length name)) _ inner.1).0 in
    make_text 36 name some (omega arith) (weaker is_name_byte (λ b. leb 0x20 b) name_byte_plain name inner.0)

plain_text : (most : ℕ) (text : List ℕ) → length text ≤ most → (eqb (length text) 0 || not (is_plain text)) ≡ false → is_text most text ≡ true
plain_text most [] short e = absurd (cc)
plain_text most (b ∷ text) short e = make_text most (b ∷ text) (omega arith) short (not_not (is_plain (b ∷ text)) (or_false (eqb (length (b ∷ text)) 0) (not (is_plain (b ∷ text))) e).1)

maybe_text : (most : ℕ) (text : List ℕ) → length text ≤ most → is_plain text ≡ true → EmptyOr (is_text most) text
maybe_text most [] short plain = inl refl
maybe_text most (b ∷ text) short plain = inr (make_text most (b ∷ text) (omega arith) short plain)

-- ---- bodies
-- a body that isn't empty ends with 0Dh
ends_so : (line : List ℕ) (lines : List (List ℕ)) → (front : List ℕ) × (kept_body (line ∷ lines) ≡ front ++ 0x0D ∷ [])
ends_so line [] = (_, append-nil (kept_line line))
ends_so line (next ∷ lines) =
    let rest = ends_so next lines in
    (kept_line line ++ rest.0, ap (λ xs. kept_line line ++ xs) rest.1 ∙ sym (append_assoc (kept_line line) rest.0 (0x0D ∷ [])))

last_of : (body front : List ℕ) → body ≡ front ++ 0x0D ∷ [] → get_or body (length body - 1) 0 ≡ 0x0D
last_of body front e =
    let len : length body - 1 ≡ length front = omega (arith, ap length e, length-append front (0x0D ∷ [])) in
    ap (λ n. get_or body n 0) len ∙ (ap (λ xs. get_or xs (length front) 0) e ∙ get_or_push front 0x0D 0 (length front) refl)

body_ends : (lines : List (List ℕ)) → IsBody (kept_body lines)
body_ends [] = inl refl
body_ends (line ∷ lines) = let e = ends_so line lines in inr (last_of (kept_body (line ∷ lines)) e.0 e.1)

-- ---- the recipient
not_needed : (net comment rest : Bool) → ((not net && not comment) && rest) ≡ false → net ≡ false → comment ≡ false → rest ≡ false
not_needed false false rest e n m = e
not_needed false true rest e n m = absurd (cc)
not_needed true comment rest e n m = absurd (cc)

and_yes : (b : Bool) → (b && true) ≡ false → b ≡ false
and_yes true e = absurd (cc)
and_yes false e = refl

goes_to : (v : View) (q : QwkMessage) (o : Option NetLine) → netmail_line v q ≡ o → (is_netmail v && is_none o) ≡ false
    → ((not (is_netmail v) && not (comment_status q.header.status)) && (eqb (length q.header.to) 0 || not (is_plain q.header.to))) ≡ false
    → IsView v → length q.header.to ≤ 36 → is_text 36 (recipient_of v q o) ≡ true
goes_to v q (Some found) is address to view short = (names_well (first_line q) found (chosen (is_netmail v) (net_line (first_line q)) found is).1).name
goes_to v q None is address to view short =
    elim (comment_status q.header.status) as (λ b. comment_status q.header.status ≡ b → is_text 36 (cond b v.sysop q.header.to) ≡ true) [
      | true ↦ λ comment. user_text v.sysop view.sysop
      | false ↦ λ comment. plain_text 36 q.header.to short (not_needed (is_netmail v) (comment_status q.header.status) (eqb (length q.header.to) 0 || not (is_plain q.header.to)) to (and_yes (is_netmail v) address) comment)
    ] refl

goes_where : (v : View) (q : QwkMessage) (o : Option NetLine) → netmail_line v q ≡ o → EmptyOr is_address (destination_of o)
goes_where v q None is = inl refl
goes_where v q (Some found) is = inr (is_test _ (names_well (first_line q) found (chosen (is_netmail v) (net_line (first_line q)) found is).1).address)

-- ---- the whole
draft_fits : (v : View) (c : ConferenceView) (q : QwkMessage) (now : ℕ) (msgid : List ℕ) → v.conference ≡ Some c → IsView v → HasShortTexts q.header → Passed v c q (draft_of v q now)
    → IsTrue (is_text 80 msgid) → IsTyped (with_msgid msgid (draft_of v q now)) → IsMessage c.kind (with_msgid msgid (draft_of v q now))
unfolding draft_of
draft_fits v c q now msgid conference view short passed id types = record {
  bytes = types.bytes;
  origin = inl refl;
  destination = goes_where v q (netmail_line v q) refl;
  from = user_text v.user view.user;
  to = goes_to v q (netmail_line v q) refl passed.address passed.to view short.to;
  msgid = id;
  replyid = view.reply;
  subject = maybe_text 72 q.header.subject short.subject (not_not (is_plain q.header.subject) passed.subject);
  body = ltb-false _ _ passed.body;
  ended = body_ends (kept_lines (netmail_line v q) q.lines);
  written = types.written;
  received = types.received;
  processed = types.processed;
  private = λ net. ap (λ b. b || (private_status q.header.status || comment_status q.header.status)) (ap is_net_view conference ∙ net);
}

-- a posted draft is the view's, and no rule refuses it
record WasPosted (v : View) (c : ConferenceView) (q : QwkMessage) (now : ℕ) (draft : Message) : Type 0 where
  made : draft_of v q now ≡ draft
  passed : Passed v c q (draft_of v q now)

posted_by : (v : View) (c : ConferenceView) (q : QwkMessage) (now : ℕ) (draft : Message) → v.conference ≡ Some c → plain_verdict v q now ≡ Post draft → WasPosted v c q now draft
unfolding plain_verdict
posted_by v c q now draft conference posted =
    let d : Message = draft_of v q now in
    let p = was_posted (first_refusing (rules_before v q ++ rules_in v v.conference q d)) d draft posted in
    let none : first_refusing (rules_before v q ++ rules_in v (Some c) q d) ≡ None = subst (λ (o : Option ConferenceView). first_refusing (rules_before v q ++ rules_in v o q d) ≡ None) conference p.0 in
    record { made = p.1; passed = passed_in v c q d none }

-- a message as it is read has names and a subject that aren't longer than a message may have them
read_short : (m : QwkMessage) → HasShortTexts m.header → HasShortTexts (plain m).header
read_short m short = record {
  to = to_keeps (λ text. length text ≤ 36) m (λ value long. (long_is 36 value long).most_bytes) short.to;
  subject = subject_keeps (λ text. length text ≤ 72) m (λ value long. (long_is 72 value long).most_bytes) short.subject;
}

pub posted_is_message : (v : View) (c : ConferenceView) (m : QwkMessage) (now : ℕ) (draft : Message) (msgid : List ℕ) → v.conference ≡ Some c → IsView v → HasShortTexts m.header
    → verdict v m now ≡ Post draft → IsTrue (is_text 80 msgid) → IsTyped (with_msgid msgid draft) → IsMessage c.kind (with_msgid msgid draft)
posted_is_message v c m now draft msgid conference view short posted id types =
    let q : QwkMessage = plain m in
    let w = posted_by v c q now draft conference posted in
    let own : IsTyped (with_msgid msgid (draft_of v q now)) = subst (λ (x : Message). IsTyped (with_msgid msgid x)) (sym w.made) types in
    subst (λ (x : Message). IsMessage c.kind (with_msgid msgid x)) w.made (draft_fits v c q now msgid conference view (read_short m short) w.passed id own)

pub posted_has_room : (v : View) (c : ConferenceView) (m : QwkMessage) (now : ℕ) (draft : Message) → v.conference ≡ Some c → verdict v m now ≡ Post draft
    → (c.slots < slot_limit) × (new_bytes draft c.msgid_len ≤ v.room)
posted_has_room v c m now draft conference posted =
    let q : QwkMessage = plain m in
    let w = posted_by v c q now draft conference posted in
    let full = or_false (leb slot_limit c.slots) (ltb v.room (new_bytes (draft_of v q now) c.msgid_len)) w.passed.full in
    (leb-false slot_limit c.slots full.0, subst (λ (x : Message). new_bytes x c.msgid_len ≤ v.room) w.made (ltb-false v.room (new_bytes (draft_of v q now) c.msgid_len) full.1))
