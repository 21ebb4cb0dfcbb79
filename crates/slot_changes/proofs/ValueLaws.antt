-- The tests of a message tell just whether a conference may hold it once it has a msgid.
use Rattle.std.proofs.Common.{◌≡◌, inl, inr, ⊎_elim, ℕ, ◌-◌, ◌≤◌, ◌+◌, ◌<◌, Bool, true, false, not, ◌&&◌, ◌||◌, leb, eqb, List, [], ◌∷◌, length, get_or, refl, sym, ◌∙◌, arith}
use Rattle.std.specs.Prelude.{All, IsTrue, ◌↔◌}
use Rattle.std.proofs.lemmas.Bool.{and_from, and_parts, eq-eqb, eqb-true, leb-true, le-leb, or_cases, or_left, or_right}
use Rattle.std.proofs.lemmas.List.Elements.{All-cons, All-head, All-nil, All-tail}
use Rattle.byte_lists.specs.Byte.{IsByte}
use Rattle.jam_layout.specs.Address.{is_address}
use Rattle.jam_layout.specs.Fields.{is_text}
use Rattle.jam_layout.specs.Marks.{is_net}
use Rattle.jam_layout.specs.Messages.{EmptyOr, IsBody, IsMessage, IsTyped}
use Rattle.jam_records.specs.declared.message.Kind.{Kind}
use Rattle.jam_records.specs.declared.message.Message.{Message}
use Rattle.slot_changes.specs.Msgids.{IsMsgid, all_identified, identified, or_else}
use Rattle.slot_changes.specs.Values.{MayHold, has_right_texts, is_empty_or, is_private_enough, is_right, is_right_body}

-- ---- single tests
empty_or : (test : List ℕ → Bool) (text : List ℕ) → is_empty_or test text ≡ true → EmptyOr test text
empty_or test text is = ⊎_elim (λ none. inl (eqb-true (length text) 0 none)) (λ passes. inr passes) (or_cases (eqb (length text) 0) (test text) is)

empty_or_back : (test : List ℕ → Bool) (text : List ℕ) → EmptyOr test text → is_empty_or test text ≡ true
empty_or_back test text is = ⊎_elim (λ none. or_left (eqb (length text) 0) (test text) (eq-eqb (length text) 0 none)) (λ passes. or_right (eqb (length text) 0) (test text) passes) is

body_right : (body : List ℕ) → is_right_body body ≡ true → (length body ≤ 16384) × IsBody body
unfolding is_right_body
body_right body is =
    ⊎_elim
    (λ none. let empty = eqb-true (length body) 0 none in (omega (arith, empty), inl empty))
    (λ both. let parts = and_parts (leb (length body) 16384) (eqb (get_or body (length body - 1) 0) 0x0D) both in (leb-true (length body) 16384 parts.0, inr (eqb-true (get_or body (length body - 1) 0) 0x0D parts.1)))
    (or_cases (eqb (length body) 0) (leb (length body) 16384 && eqb (get_or body (length body - 1) 0) 0x0D) is)

body_back : (body : List ℕ) → length body ≤ 16384 → IsBody body → is_right_body body ≡ true
unfolding is_right_body
body_back body short ended =
    ⊎_elim
    (λ none. or_left (eqb (length body) 0) _ (eq-eqb (length body) 0 none))
    (λ last. or_right (eqb (length body) 0) _ (and_from (leb (length body) 16384) (eqb (get_or body (length body - 1) 0) 0x0D) (le-leb (length body) 16384 short) (eq-eqb (get_or body (length body - 1) 0) 0x0D last)))
    ended

private_right : (net private : Bool) → (private || not net) ≡ true → net ≡ true → private ≡ true
private_right true true is e = refl
private_right true false is e = absurd (cc)
private_right false private is e = absurd (cc)

private_back : (net private : Bool) → (net ≡ true → private ≡ true) → (private || not net) ≡ true
private_back true private is = or_left private false (is refl)
private_back false private is = or_right private true refl

-- ---- msgids
own_msgid : (own other : List ℕ) → EmptyOr (is_text 80) own → All IsByte own → IsMsgid other → IsMsgid (or_else own other)
own_msgid [] other is bytes ok = ok
own_msgid (b ∷ own) other is bytes ok = record { bytes = bytes; text = ⊎_elim (λ none. absurd (omega (arith, none))) (λ passes. passes) is }

msgid_back : (own other : List ℕ) → is_text 80 (or_else own other) ≡ true → EmptyOr (is_text 80) own
msgid_back [] other is = inl refl
msgid_back (b ∷ own) other is = inr is

-- ---- a message
-- what the tests say of its texts
record RightTexts (m : Message) : Type 0 where
  from : is_text 36 m.from ≡ true
  to : is_text 36 m.to ≡ true
  origin : EmptyOr is_address m.origin
  destination : EmptyOr is_address m.destination
  msgid : EmptyOr (is_text 80) m.msgid
  replyid : EmptyOr (is_text 80) m.replyid
  subject : EmptyOr (is_text 72) m.subject

texts_right : (m : Message) → has_right_texts m ≡ true → RightTexts m
unfolding has_right_texts
texts_right m is =
    let halves = and_parts ((is_text 36 m.from && is_text 36 m.to) && (is_empty_or is_address m.origin && is_empty_or is_address m.destination)) ((is_empty_or (is_text 80) m.msgid && is_empty_or (is_text 80) m.replyid) && is_empty_or (is_text 72) m.subject) is in
    let front = and_parts (is_text 36 m.from && is_text 36 m.to) (is_empty_or is_address m.origin && is_empty_or is_address m.destination) halves.0 in
    let names = and_parts (is_text 36 m.from) (is_text 36 m.to) front.0 in
    let addresses = and_parts (is_empty_or is_address m.origin) (is_empty_or is_address m.destination) front.1 in
    let behind = and_parts (is_empty_or (is_text 80) m.msgid && is_empty_or (is_text 80) m.replyid) (is_empty_or (is_text 72) m.subject) halves.1 in
    let ids = and_parts (is_empty_or (is_text 80) m.msgid) (is_empty_or (is_text 80) m.replyid) behind.0 in
    record {
      from = names.0;
      to = names.1;
      origin = empty_or is_address m.origin addresses.0;
      destination = empty_or is_address m.destination addresses.1;
      msgid = empty_or (is_text 80) m.msgid ids.0;
      replyid = empty_or (is_text 80) m.replyid ids.1;
      subject = empty_or (is_text 72) m.subject behind.1;
    }

texts_back : (m : Message) → RightTexts m → has_right_texts m ≡ true
unfolding has_right_texts
texts_back m r =
    and_from ((is_text 36 m.from && is_text 36 m.to) && (is_empty_or is_address m.origin && is_empty_or is_address m.destination)) ((is_empty_or (is_text 80) m.msgid && is_empty_or (is_text 80) m.replyid) && is_empty_or (is_text 72) m.subject)
    (and_from (is_text 36 m.from && is_text 36 m.to) (is_empty_or is_address m.origin && is_empty_or is_address m.destination) (and_from (is_text 36 m.from) (is_text 36 m.to) r.from r.to)
    (and_from (is_empty_or is_address m.origin) (is_empty_or is_address m.destination) (empty_or_back is_address m.origin r.origin) (empty_or_back is_address m.destination r.destination)))
    (and_from (is_empty_or (is_text 80) m.msgid && is_empty_or (is_text 80) m.replyid) (is_empty_or (is_text 72) m.subject)
    (and_from (is_empty_or (is_text 80) m.msgid) (is_empty_or (is_text 80) m.replyid) (empty_or_back (is_text 80) m.msgid r.msgid) (empty_or_back (is_text 80) m.replyid r.replyid)) (empty_or_back (is_text 72) m.subject r.subject))

-- a message that is marked private, or stands in a net conference, is private enough
pub private_enough : (private net : Bool) → ((private || net) || not net) ≡ true
private_enough true net = refl
private_enough false true = refl
private_enough false false = refl

pub tested_holds : (kind : Kind) (m : Message) → IsTyped m → has_right_texts m ≡ true → is_right_body m.body ≡ true → is_private_enough kind m ≡ true → MayHold kind m
tested_holds kind m typed texts body private msgid ok =
    let r : RightTexts m = texts_right m texts in
    let b = body_right m.body body in
    let id : IsMsgid (or_else m.msgid msgid) = own_msgid m.msgid msgid r.msgid typed.bytes.msgid ok in
    record {
      bytes = record {
        origin = typed.bytes.origin;
        destination = typed.bytes.destination;
        from = typed.bytes.from;
        to = typed.bytes.to;
        msgid = id.bytes;
        replyid = typed.bytes.replyid;
        subject = typed.bytes.subject;
        body = typed.bytes.body;
      };
      origin = r.origin;
      destination = r.destination;
      from = r.from;
      to = r.to;
      msgid = id.text;
      replyid = r.replyid;
      subject = r.subject;
      body = b.0;
      ended = b.1;
      written = typed.written;
      received = typed.received;
      processed = typed.processed;
      private = private_right (is_net kind) m.private private;
    }

-- a message with one msgid passes the tests
pub record Passes (kind : Kind) (m : Message) : Type 0 where
  pub texts : has_right_texts m ≡ true
  pub body : is_right_body m.body ≡ true
  pub private : is_private_enough kind m ≡ true

held_passes : (kind : Kind) (m : Message) (msgid : List ℕ) → IsMessage kind (identified msgid m) → Passes kind m
held_passes kind m msgid is = record {
  texts = texts_back m (record { from = is.from; to = is.to; origin = is.origin; destination = is.destination; msgid = msgid_back m.msgid msgid is.msgid; replyid = is.replyid; subject = is.subject });
  body = body_back m.body is.body is.ended;
  private = private_back (is_net kind) m.private is.private;
}

-- some msgid
pub an_id : IsMsgid (0x41 ∷ [])
unfolding is_text
an_id = record { bytes = All-cons IsByte 0x41 [] (omega arith) (All-nil IsByte); text = refl }

pub may_hold_passes : (kind : Kind) (m : Message) → MayHold kind m → Passes kind m
may_hold_passes kind m may = held_passes kind m (0x41 ∷ []) (may (0x41 ∷ []) an_id)

own_bytes : (own other : List ℕ) → All IsByte (or_else own other) → All IsByte own
own_bytes [] other all = All-nil IsByte
own_bytes (b ∷ own) other all = all

held_typed : (kind : Kind) (m : Message) (msgid : List ℕ) → IsMessage kind (identified msgid m) → IsTyped m
held_typed kind m msgid is = record {
  bytes = record {
    origin = is.bytes.origin;
    destination = is.bytes.destination;
    from = is.bytes.from;
    to = is.bytes.to;
    msgid = own_bytes m.msgid msgid is.bytes.msgid;
    replyid = is.bytes.replyid;
    subject = is.bytes.subject;
    body = is.bytes.body;
  };
  written = is.written;
  received = is.received;
  processed = is.processed;
}

held_holds : (kind : Kind) (m : Message) (msgid : List ℕ) → IsMessage kind (identified msgid m) → MayHold kind m
held_holds kind m msgid is =
    let p : Passes kind m = held_passes kind m msgid is in
    tested_holds kind m (held_typed kind m msgid is) p.texts p.body p.private

-- the tests of a message, all together
pub right_holds : (kind : Kind) (m : Message) (passes : Bool) → IsTyped m → passes ≡ is_right kind m → IsTrue passes ↔ MayHold kind m
right_holds kind m passes typed is = (
  λ yes.
      let both = and_parts (has_right_texts m && is_right_body m.body) (is_private_enough kind m) (sym is ∙ yes) in
      let front = and_parts (has_right_texts m) (is_right_body m.body) both.0 in
      tested_holds kind m typed front.0 front.1 both.1,
  λ may.
      let p : Passes kind m = may_hold_passes kind m may in
      is ∙ and_from (has_right_texts m && is_right_body m.body) (is_private_enough kind m) (and_from (has_right_texts m) (is_right_body m.body) p.texts p.body) p.private,
)

-- ---- messages with their msgids
pub all_hold : (kind : Kind) (msgid : ℕ → List ℕ) (number : ℕ) (messages : List Message) → ((n : ℕ) → n < number + length messages → IsMsgid (msgid n)) → All (MayHold kind) messages → All (IsMessage kind) (all_identified msgid number messages)
all_hold kind msgid number [] ids all = All-nil (IsMessage kind)
all_hold kind msgid number (m ∷ messages) ids all =
    All-cons (IsMessage kind) (identified (msgid number) m) (all_identified msgid (number + 1) messages) (All-head (MayHold kind) m messages all (msgid number) (ids number (omega arith)))
    (all_hold kind msgid (number + 1) messages (λ n less. ids n (omega (arith, less))) (All-tail (MayHold kind) m messages all))

pub all_held : (kind : Kind) (msgid : ℕ → List ℕ) (number : ℕ) (messages : List Message) → All (IsMessage kind) (all_identified msgid number messages) → All (MayHold kind) messages
all_held kind msgid number [] all = All-nil (MayHold kind)
all_held kind msgid number (m ∷ messages) all =
    All-cons (MayHold kind) m messages (held_holds kind m (msgid number) (All-head (IsMessage kind) (identified (msgid number) m) (all_identified msgid (number + 1) messages) all))
    (all_held kind msgid (number + 1) messages (All-tail (IsMessage kind) (identified (msgid number) m) (all_identified msgid (number + 1) messages) all))
