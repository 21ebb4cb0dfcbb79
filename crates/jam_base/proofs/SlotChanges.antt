-- A base with other slots is a conference of its shape: more messages, one deleted, some received.
use Rattle.std.proofs.Common.{◌≡◌, ⊎_elim, ℕ, suc, zero, Bool, true, false, cond, ◌+◌, ◌-◌, ◌^◌, ◌≤◌, ◌<◌, List, [], ◌∷◌, ◌++◌, length, get_or, refl, sym, ap, ◌∙◌, subst, arith, length-append}
use Rattle.std.specs.Prelude.{All, ◌==◌}
use Rattle.std.proofs.lemmas.Bool.{cases_lt, cond-false, ne_eqb}
use Rattle.std.proofs.lemmas.List.{get_or_past}
use Rattle.std.proofs.Math.ListN.{set, length-set}
use Rattle.std.proofs.lemmas.List.Elements.{All-cons, All-nil, All-head, All-tail, All-push, All-set, All-get_or, All-weaker}
use Rattle.jam_records.specs.declared.message.Kind.{Kind}
use Rattle.jam_records.specs.declared.message.Message.{Message}
use Rattle.jam_records.specs.declared.message.Slot.{Slot}
use Rattle.jam_records.specs.declared.message.Slot.TheVariants.{Gone, Held}
use Rattle.jam_writing.specs.jam_layout.Limits.{slot_limit}
use Rattle.jam_writing.specs.jam_layout.Messages.{AreBytes, IsMessage, IsSlot}
use Rattle.jam_writing.specs.jam_layout.Valid.{IsConference}
use Rattle.jam_base.specs.Contents.{Contents, with_slots}
use Rattle.jam_writing.specs.jam_layout.Conference.{is_live}
use Rattle.jam_base.specs.Slots.{numbered, has_live, slots_with_all, slot_deleted, slots_deleted, is_due, slot_received, slots_received}
use Rattle.jam_base.specs.declared.receipt.Receipt.{Receipt}

-- ---- other slots
pub slots_are : (base : Contents) (slots : List Slot) → IsConference base.shape base.conference → length base.conference.slots ≤ length slots → length slots ≤ slot_limit → All (IsSlot base.shape.kind) slots
    → IsConference base.shape (with_slots slots base).conference
slots_are base slots ok more few all = record {
  counter = omega arith;
  few = few;
  slots = all;
  pointers = record {
    all = ok.pointers.all;
    within = All-weaker (λ p. p ≤ length base.conference.slots) (λ p. p ≤ length slots) (λ p le. omega (arith, le, more)) base.conference.pointers ok.pointers.within;
  };
}

-- ---- messages more
pub length_all : (slots : List Slot) (messages : List Message) → length (slots_with_all slots messages) ≡ length slots + length messages
length_all slots [] = omega arith
length_all slots (m ∷ messages) = omega (arith, length_all (slots ++ Held m ∷ []) messages, length-append slots (Held m ∷ []))

pub all_slots : (kind : Kind) (slots : List Slot) (messages : List Message) → All (IsSlot kind) slots → All (IsMessage kind) messages → All (IsSlot kind) (slots_with_all slots messages)
all_slots kind slots [] all more = all
all_slots kind slots (m ∷ messages) all more =
    all_slots kind (slots ++ Held m ∷ []) messages (All-push (IsSlot kind) slots (Held m) all (All-head (IsMessage kind) m messages more)) (All-tail (IsMessage kind) m messages more)

pub appended_is : (base : Contents) (slots : List Slot) (messages : List Message) → slots ≡ slots_with_all base.conference.slots messages → IsConference base.shape base.conference → All (IsMessage base.shape.kind) messages
    → length base.conference.slots + length messages ≤ slot_limit → IsConference base.shape (with_slots slots base).conference
appended_is base slots messages is ok all few =
    let made : List Slot = slots_with_all base.conference.slots messages in
    let len = length_all base.conference.slots messages in
    subst (λ (xs : List Slot). IsConference base.shape (with_slots xs base).conference) (sym is)
    (slots_are base made ok (omega (arith, len)) (omega (arith, len, few)) (all_slots base.shape.kind base.conference.slots messages ok.slots all))

-- ---- a message with other marks
bytes_deleted : (m : Message) → AreBytes m → AreBytes (record m { deleted = true })
bytes_deleted m ok = record { origin = ok.origin; destination = ok.destination; from = ok.from; to = ok.to; msgid = ok.msgid; replyid = ok.replyid; subject = ok.subject; body = ok.body }

message_deleted : (kind : Kind) (m : Message) → IsMessage kind m → IsMessage kind (record m { deleted = true })
message_deleted kind m ok = record {
  bytes = bytes_deleted m ok.bytes;
  origin = ok.origin;
  destination = ok.destination;
  from = ok.from;
  to = ok.to;
  msgid = ok.msgid;
  replyid = ok.replyid;
  subject = ok.subject;
  body = ok.body;
  ended = ok.ended;
  written = ok.written;
  received = ok.received;
  processed = ok.processed;
  private = ok.private;
}

bytes_read : (m : Message) (now : ℕ) → AreBytes m → AreBytes (record m { seen = true; received = now })
bytes_read m now ok = record { origin = ok.origin; destination = ok.destination; from = ok.from; to = ok.to; msgid = ok.msgid; replyid = ok.replyid; subject = ok.subject; body = ok.body }

message_read : (kind : Kind) (m : Message) (now : ℕ) → now < 2 ^ 32 → IsMessage kind m → IsMessage kind (record m { seen = true; received = now })
message_read kind m now small ok = record {
  bytes = bytes_read m now ok.bytes;
  origin = ok.origin;
  destination = ok.destination;
  from = ok.from;
  to = ok.to;
  msgid = ok.msgid;
  replyid = ok.replyid;
  subject = ok.subject;
  body = ok.body;
  ended = ok.ended;
  written = ok.written;
  received = small;
  processed = ok.processed;
  private = ok.private;
}

-- ---- a message deleted
slot_ok : (kind : Kind) (s : Slot) → IsSlot kind s → IsSlot kind (slot_deleted s)
slot_ok kind Gone ok = ok
slot_ok kind (Held m) ok = message_deleted kind m ok

-- what a number of the list stands for
pub numbered_is : (slots : List Slot) (number : ℕ) → 0 < number → numbered slots number ≡ get_or slots (number - 1) Gone
numbered_is slots number above = cond-false (number == 0) _ _ (ne_eqb number 0 (λ e. omega (arith, e, above)))

-- a number of a message that isn't deleted is that of a slot
pub live_above : (number : ℕ) (slots : List Slot) → has_live number slots ≡ true → 0 < number
live_above zero slots live = absurd (cc)
live_above (suc n) slots live = omega arith

live_past : (number : ℕ) (slots : List Slot) → has_live number slots ≡ true → length slots < number → ⊥
live_past number slots live past =
    let above = live_above number slots live in
    let gone : numbered slots number ≡ Gone = numbered_is slots number above ∙ get_or_past slots (number - 1) Gone (omega (arith, past)) in
    let none : false ≡ true = sym (ap is_live gone) ∙ live in
    cc

pub live_within : (number : ℕ) (slots : List Slot) → has_live number slots ≡ true → number ≤ length slots
live_within number slots live = ⊎_elim (λ past. absurd (live_past number slots live past)) (λ le. le) (cases_lt (length slots) number)

pub deleted_is : (base : Contents) (slots : List Slot) (number : ℕ) → slots ≡ slots_deleted number base.conference.slots → 0 < number → number ≤ length base.conference.slots → IsConference base.shape base.conference
    → IsConference base.shape (with_slots slots base).conference
deleted_is base slots number is above within ok =
    let old : List Slot = base.conference.slots in
    let s : Slot = get_or old (number - 1) Gone in
    let made : List Slot = set old (number - 1) (slot_deleted s) in
    let made_is : slots_deleted number old ≡ made = ap (λ (x : Slot). set old (number - 1) (slot_deleted x)) (numbered_is old number above) in
    let len = length-set old (number - 1) (slot_deleted s) in
    let few = ok.few in
    let all : All (IsSlot base.shape.kind) made = All-set (IsSlot base.shape.kind) old (number - 1) (slot_deleted s) (slot_ok base.shape.kind s (All-get_or (IsSlot base.shape.kind) old (number - 1) Gone (omega (arith, above, within)) ok.slots)) ok.slots in
    subst (λ (xs : List Slot). IsConference base.shape (with_slots xs base).conference) (sym (is ∙ made_is)) (slots_are base made ok (omega (arith, len)) (omega (arith, len, few)) all)

-- ---- messages received
received_one : (kind : Kind) (name : List ℕ) (r : Receipt) (n : ℕ) (m : Message) (due : Bool) → r.now < 2 ^ 32 → IsMessage kind m → IsMessage kind (cond due (record m { seen = true; received = r.now }) m)
received_one kind name r n m true small ok = message_read kind m r.now small ok
received_one kind name r n m false small ok = ok

received_slot : (kind : Kind) (name : List ℕ) (r : Receipt) (n : ℕ) (s : Slot) → r.now < 2 ^ 32 → IsSlot kind s → IsSlot kind (slot_received name r n s)
received_slot kind name r n Gone small ok = ok
received_slot kind name r n (Held m) small ok = received_one kind name r n m (is_due name r n m) small ok

received_all : (kind : Kind) (name : List ℕ) (r : Receipt) (n : ℕ) (slots : List Slot) → r.now < 2 ^ 32 → All (IsSlot kind) slots → All (IsSlot kind) (slots_received name r n slots)
received_all kind name r n [] small all = All-nil (IsSlot kind)
received_all kind name r n (s ∷ slots) small all =
    All-cons (IsSlot kind) (slot_received name r n s) (slots_received name r (n + 1) slots) (received_slot kind name r n s small (All-head (IsSlot kind) s slots all))
    (received_all kind name r (n + 1) slots small (All-tail (IsSlot kind) s slots all))

pub received_length : (name : List ℕ) (r : Receipt) (n : ℕ) (slots : List Slot) → length (slots_received name r n slots) ≡ length slots
received_length name r n [] = refl
received_length name r n (s ∷ slots) = ap suc (received_length name r (n + 1) slots)

pub received_is : (base : Contents) (slots : List Slot) (name : List ℕ) (r : Receipt) → slots ≡ slots_received name r 1 base.conference.slots → r.now < 2 ^ 32 → IsConference base.shape base.conference
    → IsConference base.shape (with_slots slots base).conference
received_is base slots name r is small ok =
    let made : List Slot = slots_received name r 1 base.conference.slots in
    let len = received_length name r 1 base.conference.slots in
    let few = ok.few in
    subst (λ (xs : List Slot). IsConference base.shape (with_slots xs base).conference) (sym is)
    (slots_are base made ok (omega (arith, len)) (omega (arith, len, few)) (received_all base.shape.kind name r 1 base.conference.slots small ok.slots))
