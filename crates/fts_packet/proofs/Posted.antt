-- A posted draft of a packet's message is a message that its conference may hold.
use Rattle.std.proofs.Common.{◌≡◌, ℕ, zero, suc, ◌-◌, ◌<◌, ◌≤◌, Bool, true, false, not, cond, ◌&&◌, leb, ltb, eqb, Option, Some, None, List, [], ◌∷◌, ◌++◌, length, take, get_or, refl, sym, ap, ◌∙◌, subst, inl, inr, arith, length-append, append_assoc}
use Rattle.std.proofs.lemmas.Bool.{le-leb, leb-true, ltb-false, and_parts, and_from}
use Rattle.std.proofs.lemmas.List.{append-nil, get_or_push}
use Rattle.std.proofs.lemmas.List.Quantifiers.{position-Some}
use Rattle.std.specs.Prelude.{IsTrue, Contains, codes, decimal, is_some, slice_get}
use Rattle.jam_records.specs.declared.message.Kind.{Kind}
use Rattle.jam_records.specs.declared.message.Kind.TheVariants.{Local, Echo, Net}
use Rattle.jam_records.specs.declared.message.Message.{Message}
use Rattle.jam_layout.proofs.AddressLaws.{is_test}
use Rattle.netmail_rules.proofs.damage_rules.BoolTests.{or_false, not_not}
use Rattle.jam_layout.specs.Address.{is_address}
use Rattle.jam_layout.specs.Fields.{is_text}
use Rattle.jam_layout.specs.Marks.{is_net}
use Rattle.jam_layout.specs.Messages.{EmptyOr, IsBody, IsMessage, IsTyped}
use Rattle.record_numbers.specs.Numbers.{u16_at}
use Rattle.setup_file.specs.declared.conference.Conference.{Conference}
use Rattle.setup_file.specs.declared.fields.SetupFields.{SetupFields}
use Rattle.netmail_rules.specs.AddressLine.{is_plain}
use Rattle.netmail_rules.specs.Fits.{with_msgid}
use Rattle.netmail_rules.specs.Rules.{names_nobody, first_refusing}
use Rattle.fts_packet.specs.Packet.{are_parts, fts_address, PackedMessageReads, PackedMessagesRead, FtsReads}
use Rattle.fts_packet.specs.Lines.{is_kludge, is_id, id_or_none, body_line, body_of_lines, behind_tag, tag_of, first_value}
use Rattle.fts_packet.specs.Draft.{is_net_letter, tossed_draft}
use Rattle.fts_packet.specs.Tossed.{is_echo, takes_tag, place_for, toss_rules, tossed_unless_refused, verdict_by_place, toss_verdict}
use Rattle.fts_packet.specs.declared.packet.FtsMessage.{FtsMessage}
use Rattle.fts_packet.specs.declared.rule.TossRule.{TossRule}
use Rattle.fts_packet.specs.declared.toss.TossDraft.TheVariants.{Post}

-- ---- texts
make_text : (most : ℕ) (text : List ℕ) → 1 ≤ length text → length text ≤ most → is_plain text ≡ true → is_text most text ≡ true
unfolding is_text
make_text most text some short plain =
    and_from (leb 1 (length text) && leb (length text) most) (is_plain text) (and_from (leb 1 (length text)) (leb (length text) most) (le-leb 1 (length text) some) (le-leb (length text) most short)) plain

name_text : (most : ℕ) (text : List ℕ) → length text ≤ most → names_nobody text ≡ false → is_text most text ≡ true
name_text most [] short e = absurd (cc)
name_text most (b ∷ text) short e = make_text most (b ∷ text) (omega arith) short (not_not (is_plain (b ∷ text)) (or_false (eqb (length (b ∷ text)) 0) (not (is_plain (b ∷ text))) e).1)

maybe_text : (most : ℕ) (text : List ℕ) → length text ≤ most → is_plain text ≡ true → EmptyOr (is_text most) text
maybe_text most [] short plain = inl refl
maybe_text most (b ∷ text) short plain = inr (make_text most (b ∷ text) (omega arith) short plain)

-- ---- ids
id_text : (value : List ℕ) → EmptyOr (is_text 80) (cond (is_id value) value [])
unfolding is_text
id_text value =
    elim (is_id value) as (λ b. is_id value ≡ b → EmptyOr (is_text 80) (cond b value [])) [
      | true ↦ λ e. inr e
      | false ↦ λ e. inl refl
    ] refl

id_fits : (o : Option (List ℕ)) → EmptyOr (is_text 80) (id_or_none o)
id_fits None = inl refl
id_fits (Some value) = id_text value

-- ---- addresses
address_text : (zone net node : ℕ) → are_parts zone net node ≡ true → is_address (decimal zone ++ (58 ∷ (decimal net ++ (47 ∷ decimal node)))) ≡ true
address_text zone net node e =
    let all = and_parts (leb zone 32767 && leb net 32767) (leb node 32767) e in
    let front = and_parts (leb zone 32767) (leb net 32767) all.0 in
    is_test _ record {
      zone = zone;
      net = net;
      node = node;
      point = 0;
      small = (leb-true zone 32767 front.0, leb-true net 32767 front.1, leb-true node 32767 all.1, omega arith);
      whole = ap (λ (xs : List ℕ). decimal zone ++ (58 ∷ (decimal net ++ (47 ∷ xs)))) (sym (append-nil (decimal node)));
    }

address_fits : (zone net node : ℕ) → EmptyOr is_address (fts_address zone net node)
address_fits zone net node =
    elim (are_parts zone net node) as (λ b. are_parts zone net node ≡ b → EmptyOr is_address (cond b (decimal zone ++ (58 ∷ (decimal net ++ (47 ∷ decimal node)))) [])) [
      | true ↦ λ e. inr (address_text zone net node e)
      | false ↦ λ e. inl refl
    ] refl

-- ---- bodies
-- nothing, or it ends with 0Dh
data Ended (body : List ℕ) : Type 0 where
  nothing : body ≡ [] → Ended body
  behind : (front : List ℕ) → body ≡ front ++ 0x0D ∷ [] → Ended body

line_ended : (line : List ℕ) → Ended (body_line line)
line_ended line =
    elim (is_kludge line) as (λ b. Ended (cond b [] (line ++ 0x0D ∷ []))) [ true ↦ nothing refl | false ↦ behind line refl ]

both_ended : (a b : List ℕ) → Ended a → Ended b → Ended (a ++ b)
both_ended a b p (behind front e) = behind (a ++ front) (ap (λ xs. a ++ xs) e ∙ sym (append_assoc a front (0x0D ∷ [])))
both_ended a b (behind front e) (nothing none) = behind front (ap (λ xs. a ++ xs) none ∙ (append-nil a ∙ e))
both_ended a b (nothing e) (nothing none) = nothing (ap (λ xs. a ++ xs) none ∙ (append-nil a ∙ e))

body_ended : (lines : List (List ℕ)) → Ended (body_of_lines lines)
body_ended [] = nothing refl
body_ended (line ∷ lines) = both_ended (body_line line) (body_of_lines lines) (line_ended line) (body_ended lines)

is_body : (body : List ℕ) → Ended body → IsBody body
is_body body (nothing e) = inl (ap length e)
is_body body (behind front e) =
    let len : length body - 1 ≡ length front = omega (arith, ap length e, length-append front (0x0D ∷ [])) in
    inr (ap (λ n. get_or body n 0) len ∙ (ap (λ xs. get_or xs (length front) 0) e ∙ get_or_push front 0x0D 0 (length front) refl))

-- ---- what a packet gives
-- names and addresses of a message that was read
record IsRead (m : FtsMessage) : Type 0 where
  origin : EmptyOr is_address m.origin
  destination : EmptyOr is_address m.destination
  to : length m.to < 36
  from : length m.from < 36
  subject : length m.subject < 72

message_read : (header bytes : List ℕ) (m : FtsMessage) → PackedMessageReads header bytes m → IsRead m
message_read header bytes m r = record {
  origin = subst (EmptyOr is_address) (sym r.numbers.origin) (address_fits (u16_at 34 header) (u16_at 6 r.front) (u16_at 2 r.front));
  destination = subst (EmptyOr is_address) (sym r.numbers.destination) (address_fits (u16_at 36 header) (u16_at 8 r.front) (u16_at 4 r.front));
  to = r.to.short;
  from = r.from.short;
  subject = r.subject.short;
}

read_at : (header bytes : List ℕ) (ms : List FtsMessage) (m : FtsMessage) (k : ℕ) → PackedMessagesRead header bytes ms → k < length ms → get_or ms k m ≡ m → IsRead m
read_at header bytes [] m k read within is = absurd (omega (arith, within))
read_at header bytes (n ∷ ms) m zero read within is = message_read header read.0 m (subst (PackedMessageReads header read.0) is read.3)
read_at header bytes (n ∷ ms) m (suc k) read within is = read_at header read.1 ms m k read.4 (omega (arith, within)) is

-- ---- no rule refuses
record Passed (m : FtsMessage) (draft : Message) : Type 0 where
  to : names_nobody m.to ≡ false
  from : names_nobody m.from ≡ false
  subject : not (is_plain m.subject) ≡ false
  body : ltb 16384 (length draft.body) ≡ false

-- a choice that isn't the first
not_first : (b : Bool) (r : TossRule) (o : Option TossRule) → cond b (Some r) o ≡ None → (b ≡ false) × (o ≡ None)
not_first true r o e = absurd (cc)
not_first false r o e = (refl, e)

passed_in : (m : FtsMessage) (draft : Message) → first_refusing (toss_rules m draft) ≡ None → Passed m draft
passed_in m draft e =
    let a = not_first (names_nobody m.to) _ _ e in
    let b = not_first (names_nobody m.from) _ _ a.1 in
    let c = not_first (not (is_plain m.subject)) _ _ b.1 in
    let d = not_first (ltb 16384 (length draft.body)) _ _ c.1 in
    record { to = a.0; from = b.0; subject = c.0; body = d.0 }

-- what was posted, and where
record WasPosted (s : SetupFields) (m : FtsMessage) (made draft : Message) (place : ℕ) : Type 0 where
  found : place_for (tag_of m.lines) s ≡ Some place
  same : made ≡ draft
  passed : Passed m made

posted_in : (s : SetupFields) (m : FtsMessage) (made draft : Message) (p : Option ℕ) (place : ℕ) (o : Option TossRule) → place_for (tag_of m.lines) s ≡ p → first_refusing (toss_rules m made) ≡ o
    → verdict_by_place m made p ≡ Post place draft → WasPosted s m made draft place
posted_in s m made draft None place o at rules e = absurd (cc)
posted_in s m made draft (Some n) place (Some r) at rules e = absurd (let refuses : tossed_unless_refused (Some r) n made ≡ Post place draft = ap (λ x. tossed_unless_refused x n made) (sym rules) ∙ e in cc)
posted_in s m made draft (Some n) place None at rules e =
    let posted : Post n made ≡ Post place draft = ap (λ x. tossed_unless_refused x n made) (sym rules) ∙ e in
    let here : n ≡ place = cc in
    record { found = at ∙ ap Some here; same = cc; passed = passed_in m made rules }

was_posted : (s : SetupFields) (m : FtsMessage) (now place : ℕ) (draft : Message) → toss_verdict s m now ≡ Post place draft → WasPosted s m (tossed_draft m now) draft place
unfolding toss_verdict
was_posted s m now place draft e = posted_in s m (tossed_draft m now) draft (place_for (tag_of m.lines) s) place (first_refusing (toss_rules m (tossed_draft m now))) refl refl e

-- ---- the conference
taken_at : (n : ℕ) (all : List Conference) (i : ℕ) (d c : Conference) → i < length (take n all) → slice_get all i ≡ Some c → get_or (take n all) i d ≡ c
taken_at zero all i d c within e = absurd (omega (arith, within))
taken_at (suc n) [] i d c within e = absurd (omega (arith, within))
taken_at (suc n) (x ∷ all) zero d c within e = cc
taken_at (suc n) (x ∷ all) (suc i) d c within e = taken_at n all i d c (omega (arith, within)) e

takes_it : (o : Option (List ℕ)) (s : SetupFields) (place : ℕ) (c : Conference) → place_for o s ≡ Some place → slice_get s.conferences place ≡ Some c → takes_tag o c ≡ true
takes_it o s place c found here =
    let p = position-Some (takes_tag o) (take 255 s.conferences) place c found in
    sym (ap (takes_tag o) (taken_at 255 s.conferences place c c p.0 here)) ∙ p.1

is_echo_alone : (k : Kind) → is_echo k ≡ true → is_net k ≡ true → ⊥
is_echo_alone Local e n = cc
is_echo_alone Echo e n = cc
is_echo_alone Net e n = cc

-- what a net conference takes is net mail
net_mail : (o : Option (List ℕ)) (c : Conference) → takes_tag o c ≡ true → is_net c.kind ≡ true → not (is_some o) ≡ true
net_mail None c t n = refl
net_mail (Some tag) c t n = absurd (is_echo_alone c.kind (and_parts (is_echo c.kind) _ t).0 n)

-- ---- the whole
destination_fits : (b : Bool) (text : List ℕ) → EmptyOr is_address text → EmptyOr is_address (cond b text [])
destination_fits true text fits = fits
destination_fits false text fits = inl refl

draft_fits : (m : FtsMessage) (c : Conference) (now : ℕ) (msgid : List ℕ) → IsRead m → Passed m (tossed_draft m now) → takes_tag (tag_of m.lines) c ≡ true
    → IsTrue (is_text 80 msgid) → IsTyped (with_msgid msgid (tossed_draft m now)) → IsMessage c.kind (with_msgid msgid (tossed_draft m now))
unfolding tossed_draft
draft_fits m c now msgid read passed takes_m id types = record {
  bytes = types.bytes;
  origin = read.origin;
  destination = destination_fits (is_net_letter m) m.destination read.destination;
  from = name_text 36 m.from (omega (arith, read.from)) passed.from;
  to = name_text 36 m.to (omega (arith, read.to)) passed.to;
  msgid = id;
  replyid = id_fits (first_value (1 ∷ codes "REPLY: ") m.lines);
  subject = maybe_text 72 m.subject (omega (arith, read.subject)) (not_not (is_plain m.subject) passed.subject);
  body = ltb-false _ _ passed.body;
  ended = is_body (body_of_lines (behind_tag m.lines)) (body_ended (behind_tag m.lines));
  written = types.written;
  received = types.received;
  processed = types.processed;
  private = λ net. net_mail (tag_of m.lines) c takes_m net;
}

pub posted_is_message : (bytes : List ℕ) (ms : List FtsMessage) (m : FtsMessage) (s : SetupFields) (c : Conference) (now place : ℕ) (draft : Message) (msgid : List ℕ) → FtsReads bytes ms → Contains ms m
    → toss_verdict s m now ≡ Post place draft → slice_get s.conferences place ≡ Some c → IsTrue (is_text 80 msgid) → IsTyped (with_msgid msgid draft) → IsMessage c.kind (with_msgid msgid draft)
posted_is_message bytes ms m s c now place draft msgid reads among posted here id types =
    let w = was_posted s m now place draft posted in
    let read = read_at reads.header reads.body ms m among.0 reads.each among.1 among.2 in
    let own : IsTyped (with_msgid msgid (tossed_draft m now)) = subst (λ (d : Message). IsTyped (with_msgid msgid d)) (sym w.same) types in
    subst (λ (d : Message). IsMessage c.kind (with_msgid msgid d)) w.same (draft_fits m c now msgid read w.passed (takes_it (tag_of m.lines) s place c w.found here) id own)

own_id : (m : FtsMessage) (now : ℕ) → EmptyOr (is_text 80) (tossed_draft m now).msgid
unfolding tossed_draft
own_id m now = id_fits (first_value (1 ∷ codes "MSGID: ") m.lines)

pub posted_id : (s : SetupFields) (m : FtsMessage) (now place : ℕ) (draft : Message) → toss_verdict s m now ≡ Post place draft → EmptyOr (is_text 80) draft.msgid
posted_id s m now place draft posted =
    let w = was_posted s m now place draft posted in
    subst (λ (d : Message). EmptyOr (is_text 80) d.msgid) w.same (own_id m now)
