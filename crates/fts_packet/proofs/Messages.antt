-- From the parts of a message to the message, and to the messages before it; and which rule the bytes of none break.
use Rattle.std.proofs.Common.{◌≡◌, ◌≢◌, ℕ, ◌+◌, ◌-◌, ◌<◌, ◌≤◌, false, not, cond, eqb, ltb, Some, Result, Ok, Err, List, [], ◌∷◌, ◌++◌, length, length-append, drop, refl, sym, ap, ◌∙◌, subst, arith, append_assoc, append-nil, eq-eqb, ne_eqb, lt-ltb, le-ltb}
use Rattle.std.proofs.lemmas.List.{drop_at}
use Rattle.std.specs.Result.{MatchResult}
use Rattle.byteorder.specs.Numbers.{little_from-append}
use Rattle.record_numbers.specs.Numbers.{u16_at}
use Rattle.fts_packet.specs.Packet.{IsHeader, IsField, PackedMessageReads, PackedMessagesRead, is_end}
use Rattle.fts_packet.specs.Fault.{message_rule, fields_rule, FtsFault, at_message}
use Rattle.fts_packet.specs.Answer.{FrontTaken, FieldsRead, PartsRead, IsMadeFrom}
use Rattle.fts_packet.specs.declared.fault.FtsRule.{FtsRule}
use Rattle.fts_packet.specs.declared.fault.FtsRule.TheVariants.{Kind, Cut}
use Rattle.fts_packet.specs.declared.packet.FtsMessage.{FtsMessage}
use Rattle.fts_packet.specs.declared.parts.Parts.{Parts}

-- ---- what bytes break before To
pub cut_at_once : (bytes : List ℕ) → length bytes < 2 → message_rule bytes ≡ Some Cut
unfolding message_rule
cut_at_once bytes few =
    ap (λ t. cond t (Some Cut) (cond (not (eqb (u16_at 0 bytes) 2)) (Some Kind) (cond (ltb (length bytes) 34) (Some Cut) (fields_rule (drop 34 bytes))))) (lt-ltb (length bytes) 2 few)

-- what more than one byte break
behind_two : (bytes : List ℕ) → 2 ≤ length bytes → message_rule bytes ≡ cond (not (eqb (u16_at 0 bytes) 2)) (Some Kind) (cond (ltb (length bytes) 34) (Some Cut) (fields_rule (drop 34 bytes)))
unfolding message_rule
behind_two bytes some =
    ap (λ t. cond t (Some Cut) (cond (not (eqb (u16_at 0 bytes) 2)) (Some Kind) (cond (ltb (length bytes) 34) (Some Cut) (fields_rule (drop 34 bytes))))) (le-ltb (length bytes) 2 some)

pub other_kind : (bytes : List ℕ) (n : ℕ) → 2 ≤ length bytes → n ≡ u16_at 0 bytes → n ≢ 2 → message_rule bytes ≡ Some Kind
other_kind bytes n some is other =
    behind_two bytes some
    ∙ ap (λ t. cond (not t) (Some Kind) (cond (ltb (length bytes) 34) (Some Cut) (fields_rule (drop 34 bytes)))) (ne_eqb (u16_at 0 bytes) 2 (λ e. other (is ∙ e)))

-- what the bytes of a message break
behind_kind : (bytes : List ℕ) → 2 ≤ length bytes → u16_at 0 bytes ≡ 2 → message_rule bytes ≡ cond (ltb (length bytes) 34) (Some Cut) (fields_rule (drop 34 bytes))
behind_kind bytes some two =
    behind_two bytes some
    ∙ ap (λ t. cond (not t) (Some Kind) (cond (ltb (length bytes) 34) (Some Cut) (fields_rule (drop 34 bytes)))) (eq-eqb (u16_at 0 bytes) 2 two)

pub cut_front : (bytes : List ℕ) (n : ℕ) → 2 ≤ length bytes → length bytes < 34 → n ≡ u16_at 0 bytes → n ≡ 2 → message_rule bytes ≡ Some Cut
cut_front bytes n some few is two =
    behind_kind bytes some (sym is ∙ two) ∙ ap (λ t. cond t (Some Cut) (fields_rule (drop 34 bytes))) (lt-ltb (length bytes) 34 few)

-- ---- the front
pub u16_of_front : (front behind : List ℕ) → 2 ≤ length front → u16_at 0 (front ++ behind) ≡ u16_at 0 front
unfolding u16_at
u16_of_front front behind some = little_from-append 2 front behind some

pub front_taken : (bytes front behind : List ℕ) (n : ℕ) → bytes ≡ front ++ behind → length front ≡ 34 → n ≡ u16_at 0 bytes → n ≡ 2 → FrontTaken bytes front behind
front_taken bytes front behind n whole size is two = record {
  whole = whole;
  size = size;
  kind = sym (u16_of_front front behind (omega (arith, size))) ∙ (sym (ap (u16_at 0) whole) ∙ (sym is ∙ two));
}

-- what breaks behind a front
pub behind_front : (bytes front behind : List ℕ) → FrontTaken bytes front behind → message_rule bytes ≡ fields_rule behind
behind_front bytes front behind f =
    let long : length bytes ≡ 34 + length behind = ap length f.whole ∙ (length-append front behind ∙ ap (λ n. n + length behind) f.size) in
    let two : u16_at 0 bytes ≡ 2 = ap (u16_at 0) f.whole ∙ (u16_of_front front behind (omega (arith, f.size)) ∙ f.kind) in
    let rest : drop 34 bytes ≡ behind = ap (drop 34) f.whole ∙ drop_at front behind 34 f.size in
    behind_kind bytes (omega (arith, long)) two
    ∙ (ap (λ t. cond t (Some Cut) (fields_rule (drop 34 bytes))) (le-ltb (length bytes) 34 (omega (arith, long))) ∙ ap fields_rule rest)

pub parts_or_rule : (bytes front behind : List ℕ) (r : Result Parts FtsRule) → FrontTaken bytes front behind
    → MatchResult r (FieldsRead front behind) (λ rule. fields_rule behind ≡ Some rule)
    → MatchResult r (PartsRead bytes) (λ rule. message_rule bytes ≡ Some rule)
parts_or_rule bytes front behind (Ok p) f fields = record {
  behind = behind;
  front = subst (λ (x : List ℕ). FrontTaken bytes x behind) (sym fields.front_is) f;
  fields = subst (λ (x : List ℕ). FieldsRead x behind p) (sym fields.front_is) fields;
}
parts_or_rule bytes front behind (Err rule) f broken = behind_front bytes front behind f ∙ broken

-- ---- a message
-- the four texts, each with its NUL
abbrev pub four : (to from subject text : List ℕ) → List ℕ
four to from subject text = to ++ 0 ∷ (from ++ 0 ∷ (subject ++ 0 ∷ (text ++ 0 ∷ [])))

pub four_more : (to from subject text rest : List ℕ) → four to from subject text ++ rest ≡ to ++ 0 ∷ (from ++ 0 ∷ (subject ++ 0 ∷ (text ++ 0 ∷ rest)))
four_more to from subject text rest =
    let t : (text ++ 0 ∷ []) ++ rest ≡ text ++ 0 ∷ rest = append_assoc text (0 ∷ []) rest in
    let s : (subject ++ 0 ∷ (text ++ 0 ∷ [])) ++ rest ≡ subject ++ 0 ∷ (text ++ 0 ∷ rest) = append_assoc subject (0 ∷ (text ++ 0 ∷ [])) rest ∙ ap (λ xs. subject ++ 0 ∷ xs) t in
    let f : (from ++ 0 ∷ (subject ++ 0 ∷ (text ++ 0 ∷ []))) ++ rest ≡ from ++ 0 ∷ (subject ++ 0 ∷ (text ++ 0 ∷ rest))
    = append_assoc from (0 ∷ (subject ++ 0 ∷ (text ++ 0 ∷ []))) rest ∙ ap (λ xs. from ++ 0 ∷ xs) s in
    append_assoc to (0 ∷ (from ++ 0 ∷ (subject ++ 0 ∷ (text ++ 0 ∷ [])))) rest ∙ ap (λ xs. to ++ 0 ∷ xs) f

-- the bytes of a message
abbrev pub own : Parts → List ℕ
own p = p.front.now ++ four p.to.now p.from.now p.subject.now p.text.now

pub own_more : (bytes : List ℕ) (p : Parts) → PartsRead bytes p → bytes ≡ own p ++ p.rest.now
own_more bytes p a =
    a.front.whole
    ∙ (ap (λ xs. p.front.now ++ xs) (a.fields.whole ∙ sym (four_more p.to.now p.from.now p.subject.now p.text.now p.rest.now))
    ∙ sym (append_assoc p.front.now (four p.to.now p.from.now p.subject.now p.text.now) p.rest.now))

-- what follows a message is shorter
pub rest_shorter : (bytes : List ℕ) (p : Parts) → PartsRead bytes p → length p.rest.now < length bytes
rest_shorter bytes p a =
    let long : length bytes ≡ length (own p) + length p.rest.now = ap length (own_more bytes p a) ∙ length-append (own p) p.rest.now in
    let some : length (own p) ≡ 34 + length (four p.to.now p.from.now p.subject.now p.text.now)
    = length-append p.front.now (four p.to.now p.from.now p.subject.now p.text.now) ∙ ap (λ n. n + length (four p.to.now p.from.now p.subject.now p.text.now)) a.front.size in
    omega (arith, long, some)

pub message_reads : (header bytes : List ℕ) (p : Parts) (m : FtsMessage) → PartsRead bytes p → IsMadeFrom header p m → PackedMessageReads header (own p) m
message_reads header bytes p m a made = record {
  front = p.front.now;
  text = p.text.now;
  whole =
      ap (λ xs. p.front.now ++ four xs p.from.now p.subject.now p.text.now) (sym made.to)
      ∙ (ap (λ xs. p.front.now ++ four m.to xs p.subject.now p.text.now) (sym made.from)
      ∙ ap (λ xs. p.front.now ++ four m.to m.from xs p.text.now) (sym made.subject));
  numbers = record { size = a.front.size; kind = a.front.kind; origin = made.origin; destination = made.destination; date = made.date };
  to = subst (IsField 36) (sym made.to) a.fields.to;
  from = subst (IsField 36) (sym made.from) a.fields.from;
  subject = subst (IsField 72) (sym made.subject) a.fields.subject;
  clear = a.fields.text;
  lines = made.lines;
}

-- ---- one message more
pub messages_push : (header before first : List ℕ) (ms : List FtsMessage) (m : FtsMessage) → PackedMessagesRead header before ms → PackedMessageReads header first m → PackedMessagesRead header (before ++ first) (ms ++ m ∷ [])
messages_push header before first [] m read one = (first, [], ap (λ xs. xs ++ first) read ∙ sym (append-nil first), one, refl)
messages_push header before first (n ∷ ns) m read one =
    (read.0, read.1 ++ first, ap (λ xs. xs ++ first) read.2 ∙ append_assoc read.0 read.1 first, read.3, messages_push header read.1 first ns m read.4 one)

pub whole_more : (bytes header before rest first after : List ℕ) → bytes ≡ header ++ (before ++ rest) → rest ≡ first ++ after → bytes ≡ header ++ ((before ++ first) ++ after)
whole_more bytes header before rest first after so_far next =
    so_far ∙ ap (λ xs. header ++ xs) (ap (λ xs. before ++ xs) next ∙ sym (append_assoc before first after))

-- where the bytes of no message begin
pub fault_here : (bytes header before rest : List ℕ) (ms : List FtsMessage) (rule : FtsRule) → bytes ≡ header ++ (before ++ rest) → IsHeader header → PackedMessagesRead header before ms
    → is_end rest ≡ false → message_rule rest ≡ Some rule → FtsFault bytes rule (length bytes - length rest)
fault_here bytes header before rest ms rule whole headed read goes broken =
    let long : length bytes ≡ 58 + (length before + length rest)
    = ap length whole ∙ (length-append header (before ++ rest) ∙ omega (arith, headed.size, length-append before rest)) in
    at_message header before rest ms whole headed read goes broken (omega (arith, long))
