-- Any bytes read as the messages of a type 2 packet, or have a first fault.
use Rattle.std.proofs.Common.{◌≡◌, ◌⊎◌, inl, inr, ℕ, zero, suc, ◌+◌, ◌≤◌, Bool, true, false, Option, Some, List, [], ◌∷◌, ◌++◌, length, take, drop, refl, sym, ap, ◌∙◌, arith, length-append, append_assoc}
use Rattle.std.proofs.lemmas.Bool.{cases_eq, cases_lt}
use Rattle.std.proofs.lemmas.List.{length-take-le, take-append-drop}
use Rattle.std.specs.Option.{option_or}
use Rattle.fts_packet.proofs.Messages.{behind_front, cut_at_once, cut_front, four, four_more, front_taken, messages_push, other_kind, whole_more}
use Rattle.fts_packet.proofs.Nuls.{field_long, field_without, stage_broken, stage_passed, text_without}
use Rattle.fts_packet.specs.Answer.{FrontTaken}
use Rattle.fts_packet.specs.Fault.{FtsFault, at_message, field_fault, field_rule, fields_rule, from_rule, message_rule, other_type, past_nul, subject_rule, text_rule, too_short}
use Rattle.fts_packet.specs.Packet.{FtsReads, IsField, IsHeader, PackedMessageReads, PackedMessagesRead, fts_address, is_end}
use Rattle.fts_packet.specs.Text.{text_lines}
use Rattle.fts_packet.specs.declared.fault.FtsRule.{FtsRule}
use Rattle.fts_packet.specs.declared.fault.FtsRule.TheVariants.{Short, WrongType, Kind, Cut}
use Rattle.fts_packet.specs.declared.packet.FtsMessage.{FtsMessage}
use Rattle.text_fields.proofs.Fields.{split_or_lacks}
use Rattle.record_numbers.specs.Numbers.{u16_at}
use Rattle.text_fields.specs.Split.{Lacks}

-- ---- the four texts
-- a field is kept, so that what is asked next is asked of what stands behind it; or a rule is broken
field_or_rule : (width : ℕ) (next : List ℕ → Option FtsRule) (rest : List ℕ)
    → ((text more : List ℕ) × IsField width text × (rest ≡ text ++ 0 ∷ more) × (option_or (field_rule width rest) (next (past_nul rest)) ≡ next more))
    ⊎ ((rule : FtsRule) × (option_or (field_rule width rest) (next (past_nul rest)) ≡ Some rule))
field_or_rule width next rest = elim (split_or_lacks 0 rest) [
  | inl s ↦ elim (cases_lt (length s.0) width) [
    | inl short ↦ inl (s.0, s.1, record { clear = s.2.first; short = short }, s.2.whole, stage_passed width next rest s.0 s.1 s.2 short)
    | inr long ↦ inr (field_fault width rest, stage_broken width next rest (field_fault width rest) (field_long width rest s.0 s.1 (field_fault width rest) s.2 long refl))
  ]
  | inr none ↦ inr (field_fault width rest, stage_broken width next rest (field_fault width rest) (field_without width rest (field_fault width rest) none refl))
]

text_or_rule : (rest : List ℕ) → ((text more : List ℕ) × Lacks 0 text × (rest ≡ text ++ 0 ∷ more)) ⊎ (text_rule rest ≡ Some Cut)
text_or_rule rest = elim (split_or_lacks 0 rest) [ inl s ↦ inl (s.0, s.1, s.2.first, s.2.whole) | inr none ↦ inr (text_without rest none) ]

record AreTexts (bytes to from subject text more : List ℕ) : Type 0 where
  whole : bytes ≡ to ++ 0 ∷ (from ++ 0 ∷ (subject ++ 0 ∷ (text ++ 0 ∷ more)))
  to_is : IsField 36 to
  from_is : IsField 36 from
  subject_is : IsField 72 subject
  clear : Lacks 0 text

texts_or_rule : (bytes : List ℕ) → ((to from subject text more : List ℕ) × AreTexts bytes to from subject text more) ⊎ ((rule : FtsRule) × (fields_rule bytes ≡ Some rule))
texts_or_rule bytes = elim (field_or_rule 36 from_rule bytes) [
  | inr broken ↦ inr broken
  | inl to ↦ elim (field_or_rule 36 subject_rule to.1) [
    | inr broken ↦ inr (broken.0, to.4 ∙ broken.1)
    | inl from ↦ elim (field_or_rule 72 text_rule from.1) [
      | inr broken ↦ inr (broken.0, to.4 ∙ (from.4 ∙ broken.1))
      | inl subject ↦ elim (text_or_rule subject.1) [
        | inr cut ↦ inr (Cut, to.4 ∙ (from.4 ∙ (subject.4 ∙ cut)))
        | inl text ↦ inl (
          to.0,
          from.0,
          subject.0,
          text.0,
          text.1,
          record {
            whole = to.3 ∙ ap (λ xs. to.0 ++ 0 ∷ xs) (from.3 ∙ ap (λ xs. from.0 ++ 0 ∷ xs) (subject.3 ∙ ap (λ xs. subject.0 ++ 0 ∷ xs) text.3));
            to_is = to.2;
            from_is = from.2;
            subject_is = subject.2;
            clear = text.2;
          },
        )
      ]
    ]
  ]
]

-- ---- one message
abbrev Begins : List ℕ → List ℕ → Type 0
Begins header bytes = (first after : List ℕ) × (m : FtsMessage) × (bytes ≡ first ++ after) × PackedMessageReads header first m

abbrev made : (header front to from subject text : List ℕ) → FtsMessage
made header front to from subject text = record {
  origin = fts_address (u16_at 34 header) (u16_at 6 front) (u16_at 2 front);
  destination = fts_address (u16_at 36 header) (u16_at 8 front) (u16_at 4 front);
  date = take 20 (drop 14 front);
  to = to;
  from = from;
  subject = subject;
  lines = text_lines text;
}

begins : (header bytes front behind to from subject text more : List ℕ) → FrontTaken bytes front behind → AreTexts behind to from subject text more → Begins header bytes
begins header bytes front behind to from subject text more taken texts = (
  front ++ four to from subject text,
  more,
  made header front to from subject text,
  taken.whole ∙ (ap (λ xs. front ++ xs) (texts.whole ∙ sym (four_more to from subject text more)) ∙ sym (append_assoc front (four to from subject text) more)),
  record {
    front = front;
    text = text;
    whole = refl;
    numbers = record { size = taken.size; kind = taken.kind; origin = refl; destination = refl; date = refl };
    to = texts.to_is;
    from = texts.from_is;
    subject = texts.subject_is;
    clear = texts.clear;
    lines = refl;
  },
)

message_or_rule : (header bytes : List ℕ) → Begins header bytes ⊎ ((rule : FtsRule) × (message_rule bytes ≡ Some rule))
message_or_rule header bytes = elim (cases_lt (length bytes) 2) [
  | inl few ↦ inr (Cut, cut_at_once bytes few)
  | inr some ↦ elim (cases_eq (u16_at 0 bytes) 2) [
    | inr other ↦ inr (Kind, other_kind bytes (u16_at 0 bytes) some refl other)
    | inl two ↦ elim (cases_lt (length bytes) 34) [
      | inl few ↦ inr (Cut, cut_front bytes (u16_at 0 bytes) some few refl two)
      | inr long ↦
          let taken : FrontTaken bytes (take 34 bytes) (drop 34 bytes)
          = front_taken bytes (take 34 bytes) (drop 34 bytes) (u16_at 0 bytes) (sym (take-append-drop 34 bytes)) (length-take-le 34 bytes long) refl two in
          elim (texts_or_rule (drop 34 bytes)) [
            | inr broken ↦ inr (broken.0, behind_front bytes (take 34 bytes) (drop 34 bytes) taken ∙ broken.1)
            | inl t ↦ inl (begins header bytes (take 34 bytes) (drop 34 bytes) t.0 t.1 t.2 t.3 t.4 taken t.5)
          ]
    ]
  ]
]

-- ---- the packet
abbrev IsType2 : List ℕ → Type 0
IsType2 bytes = ((messages : List FtsMessage) × FtsReads bytes messages) ⊎ ((rule : FtsRule) × (at : ℕ) × FtsFault bytes rule at)

module _ (bytes header : List ℕ) (headed : IsHeader header) where
  -- what is said of messages that begin a packet, where so many bytes are left at most
  abbrev Walks : ℕ → Type 0
  Walks left = (before rest : List ℕ) (messages : List FtsMessage) → length rest ≤ left → bytes ≡ header ++ (before ++ rest) → PackedMessagesRead header before messages → IsType2 bytes

  -- a message has bytes
  shorter : (rest first after : List ℕ) (m : FtsMessage) (left : ℕ) → length rest ≤ suc left → rest ≡ first ++ after → PackedMessageReads header first m → length after ≤ left
  shorter rest first after m left few whole one =
      let behind : List ℕ = four m.to m.from m.subject one.text in
      let some : length first ≡ 34 + length behind = ap length one.whole ∙ (length-append one.front behind ∙ ap (λ n. n + length behind) one.numbers.size) in
      omega (arith, few, ap length whole, length-append first after, some)

  ended : (before rest : List ℕ) (messages : List FtsMessage) → bytes ≡ header ++ (before ++ rest) → PackedMessagesRead header before messages → is_end rest ≡ true → IsType2 bytes
  ended before rest messages whole read end = inl (messages, record { header = header; body = before; rest = rest; whole = whole; headed = headed; each = read; ended = end })

  goes_on : (left : ℕ) → Walks left → (before rest : List ℕ) (messages : List FtsMessage) → length rest ≤ suc left → bytes ≡ header ++ (before ++ rest) → PackedMessagesRead header before messages
      → (end : Bool) → is_end rest ≡ end → IsType2 bytes
  goes_on left on before rest messages few whole read true end = ended before rest messages whole read end
  goes_on left on before rest messages few whole read false end = elim (message_or_rule header rest) [
    | inr broken ↦ inr (broken.0, 58 + length before, at_message header before rest messages whole headed read end broken.1 refl)
    | inl m ↦ on (before ++ m.0) m.1 (messages ++ m.2 ∷ []) (shorter rest m.0 m.1 m.2 left few m.3 m.4) (whole_more bytes header before rest m.0 m.1 whole m.3) (messages_push header before m.0 messages m.2 read m.4)
  ]

  walks : (left : ℕ) → Walks left
  walks zero before [] messages few whole read = ended before [] messages whole read refl
  walks zero before (b ∷ rest) messages few whole read = absurd (omega (arith, few))
  walks (suc left) before rest messages few whole read = goes_on left (walks left) before rest messages few whole read (is_end rest) refl

pub type2_or_fault : (bytes : List ℕ) → IsType2 bytes
type2_or_fault bytes = elim (cases_lt (length bytes) 58) [
  | inl short ↦ inr (Short, 0, too_short short refl refl)
  | inr long ↦
      let whole : bytes ≡ take 58 bytes ++ drop 58 bytes = sym (take-append-drop 58 bytes) in
      let size : length (take 58 bytes) ≡ 58 = length-take-le 58 bytes long in
      elim (cases_eq (u16_at 18 (take 58 bytes)) 2) [
        | inr other ↦ inr (WrongType, 18, other_type (take 58 bytes) (drop 58 bytes) whole size other refl refl)
        | inl two ↦ walks bytes (take 58 bytes) (record { size = size; kind = two }) (length (drop 58 bytes)) [] (drop 58 bytes) [] (omega arith) whole refl
      ]
]
