-- Bytes read as one list of messages at most, and then have no fault; and they have one fault at most.
use Rattle.std.proofs.Common.{◌≡◌, ℕ, ◌+◌, ◌<◌, true, false, cond, eqb, Some, None, Result, Ok, Err, List, [], ◌∷◌, ◌++◌, length, length-append, take, drop, refl, sym, ap, ◌∙◌, subst, inl, inr, arith, append_assoc, ne_eqb, le-ltb, true≢false}
use Rattle.std.proofs.lemmas.Option.{none-some, same_Some}
use Rattle.std.specs.Result.{MatchResult}
use Rattle.byte_lists.specs.Memory.{UnlessMemory}
use Rattle.text_fields.proofs.Splits.{split_once}
use Rattle.text_fields.proofs.Trimming.{same_front, same_rest}
use Rattle.record_numbers.specs.Numbers.{u16_at}
use Rattle.fts_packet.specs.Text.{text_lines}
use Rattle.fts_packet.specs.Packet.{IsHeader, PackedMessageReads, PackedMessagesRead, FtsReads, is_end, fts_address}
use Rattle.fts_packet.specs.Fault.{message_rule, from_rule, subject_rule, text_rule, FtsFault, too_short, other_type, at_message}
use Rattle.fts_packet.specs.Answer.{FrontTaken, FtsFaultOrMemory}
use Rattle.fts_packet.specs.declared.fault.FtsError.{FtsError}
use Rattle.fts_packet.specs.declared.fault.FtsError.TheVariants.{Fault, OutOfMemory}
use Rattle.fts_packet.specs.declared.fault.FtsRule.{FtsRule}
use Rattle.fts_packet.specs.declared.packet.FtsMessage.{FtsMessage}
use Rattle.fts_packet.proofs.Messages.{four, four_more, behind_front, u16_of_front}
use Rattle.fts_packet.proofs.Nuls.{stage_passed, text_kept}

-- ---- one message
made : List ℕ → List ℕ → List ℕ → List ℕ → List ℕ → List ℕ → List (List ℕ) → FtsMessage
made origin destination date to from subject all = record {
  origin = origin;
  destination = destination;
  date = date;
  to = to;
  from = from;
  subject = subject;
  lines = all;
}

made_is : (m : FtsMessage) → m ≡ made m.origin m.destination m.date m.to m.from m.subject m.lines
unfolding made
made_is m = refl

-- the bytes of a message and what follows them, by its parts
opened : (header first after : List ℕ) (m : FtsMessage) (r : PackedMessageReads header first m) → first ++ after ≡ r.front ++ (m.to ++ 0 ∷ (m.from ++ 0 ∷ (m.subject ++ 0 ∷ (r.text ++ 0 ∷ after))))
opened header first after m r =
    ap (λ xs. xs ++ after) r.whole
    ∙ (append_assoc r.front (four m.to m.from m.subject r.text) after ∙ ap (λ xs. r.front ++ xs) (four_more m.to m.from m.subject r.text after))

-- messages that begin the same bytes are one
heads : (header a b x y : List ℕ) (m n : FtsMessage) → PackedMessageReads header a m → PackedMessageReads header b n → a ++ x ≡ b ++ y → (a ≡ b) × (m ≡ n) × (x ≡ y)
heads header a b x y m n s t e =
    let all = sym (opened header a x m s) ∙ (e ∙ opened header b y n t) in
    let sizes : length s.front ≡ length t.front = s.numbers.size ∙ sym t.numbers.size in
    let fronts : s.front ≡ t.front = same_front s.front t.front _ _ sizes all in
    let behind = same_rest s.front t.front _ _ sizes all in
    let tos = split_once 0 m.to n.to _ _ s.to.clear t.to.clear behind in
    let froms = split_once 0 m.from n.from _ _ s.from.clear t.from.clear tos.1 in
    let subjects = split_once 0 m.subject n.subject _ _ s.subject.clear t.subject.clear froms.1 in
    let texts = split_once 0 s.text t.text x y s.clear t.clear subjects.1 in
    let origin : m.origin ≡ n.origin = s.numbers.origin ∙ (ap (λ (f : List ℕ). fts_address (u16_at 34 header) (u16_at 6 f) (u16_at 2 f)) fronts ∙ sym t.numbers.origin) in
    let destination : m.destination ≡ n.destination = s.numbers.destination ∙ (ap (λ (f : List ℕ). fts_address (u16_at 36 header) (u16_at 8 f) (u16_at 4 f)) fronts ∙ sym t.numbers.destination) in
    let date : m.date ≡ n.date = s.numbers.date ∙ (ap (λ (f : List ℕ). take 20 (drop 14 f)) fronts ∙ sym t.numbers.date) in
    let to : m.to ≡ n.to = tos.0 in
    let from : m.from ≡ n.from = froms.0 in
    let subject : m.subject ≡ n.subject = subjects.0 in
    let text : s.text ≡ t.text = texts.0 in
    let lines : m.lines ≡ n.lines = s.lines ∙ (ap text_lines text ∙ sym t.lines) in
    let p : m ≡ made m.origin m.destination m.date m.to m.from m.subject m.lines = made_is m in
    let q : n ≡ made n.origin n.destination n.date n.to n.from n.subject n.lines = made_is n in
    let sw : a ≡ s.front ++ four m.to m.from m.subject s.text = s.whole in
    let tw : b ≡ t.front ++ four n.to n.from n.subject t.text = t.whole in
    (cc, cc, texts.1)

front_in : (header first after : List ℕ) (m : FtsMessage) (r : PackedMessageReads header first m)
    → FrontTaken (first ++ after) r.front (m.to ++ 0 ∷ (m.from ++ 0 ∷ (m.subject ++ 0 ∷ (r.text ++ 0 ∷ after))))
front_in header first after m r = record { whole = opened header first after m r; size = r.numbers.size; kind = r.numbers.kind }

-- the bytes of a message break no rule
pub no_rule : (header first after : List ℕ) (m : FtsMessage) → PackedMessageReads header first m → message_rule (first ++ after) ≡ None
no_rule header first after m r =
    let b3 : List ℕ = r.text ++ 0 ∷ after in
    let b2 : List ℕ = m.subject ++ 0 ∷ b3 in
    let b1 : List ℕ = m.from ++ 0 ∷ b2 in
    let b0 : List ℕ = m.to ++ 0 ∷ b1 in
    behind_front (first ++ after) r.front b0 (front_in header first after m r)
    ∙ (stage_passed 36 from_rule b0 m.to b1 record { whole = refl; first = r.to.clear } r.to.short
    ∙ (stage_passed 36 subject_rule b1 m.from b2 record { whole = refl; first = r.from.clear } r.from.short
    ∙ (stage_passed 72 text_rule b2 m.subject b3 record { whole = refl; first = r.subject.clear } r.subject.short
    ∙ text_kept b3 r.text after record { whole = refl; first = r.clear })))

-- and don't end the packet
pub no_end : (header first after : List ℕ) (m : FtsMessage) → PackedMessageReads header first m → is_end (first ++ after) ≡ false
no_end header first after m r =
    let f = front_in header first after m r in
    let b0 : List ℕ = m.to ++ 0 ∷ (m.from ++ 0 ∷ (m.subject ++ 0 ∷ (r.text ++ 0 ∷ after))) in
    let all : List ℕ = first ++ after in
    let long : length all ≡ 34 + length b0 = ap length f.whole ∙ (length-append r.front b0 ∙ ap (λ n. n + length b0) f.size) in
    let two : u16_at 0 all ≡ 2 = ap (u16_at 0) f.whole ∙ (u16_of_front r.front b0 (omega (arith, f.size)) ∙ f.kind) in
    ap (λ t. cond t (eqb (length all) 0) (eqb (u16_at 0 all) 0)) (le-ltb (length all) 2 (omega (arith, long))) ∙ ne_eqb (u16_at 0 all) 0 (λ none. omega (arith, two, none))

-- ---- messages, and what begins with none
-- the bytes begin with no message of this packet
abbrev BeginsNone : List ℕ → List ℕ → Type 0
BeginsNone header rest = (first after : List ℕ) (m : FtsMessage) → rest ≡ first ++ after → PackedMessageReads header first m → ⊥

end_begins_none : (header rest : List ℕ) → is_end rest ≡ true → BeginsNone header rest
end_begins_none header rest ends = λ first after m whole r. true≢false (sym (subst (λ (l : List ℕ). is_end l ≡ true) whole ends) ∙ no_end header first after m r)

fault_begins_none : (header rest : List ℕ) (rule : FtsRule) → message_rule rest ≡ Some rule → BeginsNone header rest
fault_begins_none header rest rule broken = λ first after m whole r. none-some rule (sym (no_rule header first after m r) ∙ (ap message_rule (sym whole) ∙ broken))

regroup : (before rest first more : List ℕ) → before ≡ first ++ more → before ++ rest ≡ first ++ (more ++ rest)
regroup before rest first more e = ap (λ xs. xs ++ rest) e ∙ append_assoc first more rest

-- messages and what begins with none are found in bytes in one way
record Same (a b r s : List ℕ) (ms ns : List FtsMessage) : Type 0 where
  fronts : a ≡ b
  rests : r ≡ s
  messages : ms ≡ ns

fronts_once : (header a b r s : List ℕ) (ms ns : List FtsMessage) → PackedMessagesRead header a ms → PackedMessagesRead header b ns → BeginsNone header r → BeginsNone header s → a ++ r ≡ b ++ s → Same a b r s ms ns
fronts_once header a b r s [] [] p q none none' e =
    let front : a ≡ b = p ∙ sym q in
    record { fronts = front; rests = same_rest a b r s (ap length front) e; messages = refl }
fronts_once header a b r s [] (n ∷ ns) p q none none' e =
    absurd (none q.0 (q.1 ++ s) n (ap (λ xs. xs ++ r) (sym p) ∙ (e ∙ regroup b s q.0 q.1 q.2)) q.3)
fronts_once header a b r s (m ∷ ms) [] p q none none' e =
    absurd (none' p.0 (p.1 ++ r) m (ap (λ xs. xs ++ s) (sym q) ∙ (sym e ∙ regroup a r p.0 p.1 p.2)) p.3)
fronts_once header a b r s (m ∷ ms) (n ∷ ns) p q none none' e =
    let h : (p.0 ≡ q.0) × (m ≡ n) × (p.1 ++ r ≡ q.1 ++ s) = heads header p.0 q.0 (p.1 ++ r) (q.1 ++ s) m n p.3 q.3 (sym (regroup a r p.0 p.1 p.2) ∙ (e ∙ regroup b s q.0 q.1 q.2)) in
    let t = fronts_once header p.1 q.1 r s ms ns p.4 q.4 none none' h.2 in
    let first : p.0 ≡ q.0 = h.0 in
    let more : p.1 ≡ q.1 = t.fronts in
    let one : m ≡ n = h.1 in
    let others : ms ≡ ns = t.messages in
    let pw : a ≡ p.0 ++ p.1 = p.2 in
    let qw : b ≡ q.0 ++ q.1 = q.2 in
    record { fronts = cc; rests = t.rests; messages = cc }

-- bytes by their header, messages and what begins with none
record Walked (bytes header before rest : List ℕ) (ms : List FtsMessage) : Type 0 where
  whole : bytes ≡ header ++ (before ++ rest)
  headed : IsHeader header
  read : PackedMessagesRead header before ms
  stops : BeginsNone header rest

walked_once : (bytes header header' before before' rest rest' : List ℕ) (ms ns : List FtsMessage) → Walked bytes header before rest ms → Walked bytes header' before' rest' ns → Same before before' rest rest' ms ns
walked_once bytes header header' before before' rest rest' ms ns x y =
    let e : header ++ (before ++ rest) ≡ header' ++ (before' ++ rest') = sym x.whole ∙ y.whole in
    let sizes : length header ≡ length header' = x.headed.size ∙ sym y.headed.size in
    let heads_same : header ≡ header' = same_front header header' _ _ sizes e in
    let behind : before ++ rest ≡ before' ++ rest' = same_rest header header' _ _ sizes e in
    fronts_once header' before before' rest rest' ms ns (subst (λ (h : List ℕ). PackedMessagesRead h before ms) heads_same x.read) y.read (subst (λ (h : List ℕ). BeginsNone h rest) heads_same x.stops) y.stops behind

read_walked : (bytes : List ℕ) (ms : List FtsMessage) (p : FtsReads bytes ms) → Walked bytes p.header p.body p.rest ms
read_walked bytes ms p = record { whole = p.whole; headed = p.headed; read = p.each; stops = end_begins_none p.header p.rest p.ended }

pub packet_once : (bytes : List ℕ) (ms ns : List FtsMessage) → FtsReads bytes ms → FtsReads bytes ns → ms ≡ ns
packet_once bytes ms ns p q = (walked_once bytes p.header q.header p.body q.body p.rest q.rest ms ns (read_walked bytes ms p) (read_walked bytes ns q)).messages

-- ---- faults
-- a header of 58 bytes has its number at 18
header_long : (bytes header rest : List ℕ) → bytes ≡ header ++ rest → length header ≡ 58 → ¬ (length bytes < 58)
header_long bytes header rest e size = λ few. omega (arith, few, ap length e, length-append header rest, size)

header_kind : (bytes header header' rest rest' : List ℕ) → bytes ≡ header ++ rest → bytes ≡ header' ++ rest' → length header ≡ 58 → IsHeader header' → u16_at 18 header ≡ 2
header_kind bytes header header' rest rest' e e' size h =
    let same : header ≡ header' = same_front header header' rest rest' (size ∙ sym h.size) (sym e ∙ e') in
    ap (u16_at 18) same ∙ h.kind

pub no_fault : (bytes : List ℕ) (ms : List FtsMessage) (rule : FtsRule) (at : ℕ) → FtsReads bytes ms → ¬ FtsFault bytes rule at
no_fault bytes ms rule at p (too_short few is place) = header_long bytes p.header (p.body ++ p.rest) p.whole p.headed.size few
no_fault bytes ms rule at p (other_type header rest whole size other is place) = other (header_kind bytes header p.header rest (p.body ++ p.rest) whole p.whole size p.headed)
no_fault bytes ms rule at p (at_message header before rest ns whole headed read goes broken place) =
    let y : Walked bytes header before rest ns = record { whole = whole; headed = headed; read = read; stops = fault_begins_none header rest rule broken } in
    let t = walked_once bytes p.header header p.body before p.rest rest ms ns (read_walked bytes ms p) y in
    true≢false (sym p.ended ∙ (ap is_end t.rests ∙ goes))

pub fault_once : (bytes : List ℕ) (q r : FtsRule) (m n : ℕ) → FtsFault bytes q m → FtsFault bytes r n → (q ≡ r) × (m ≡ n)
fault_once bytes q r m n (too_short few is place) (too_short few' is' place') = (is ∙ sym is', place ∙ sym place')
fault_once bytes q r m n (too_short few is place) (other_type header rest whole size other is' place') = absurd (header_long bytes header rest whole size few)
fault_once bytes q r m n (too_short few is place) (at_message header before rest ms whole headed read goes broken place') = absurd (header_long bytes header (before ++ rest) whole headed.size few)
fault_once bytes q r m n (other_type header rest whole size other is place) (too_short few is' place') = absurd (header_long bytes header rest whole size few)
fault_once bytes q r m n (other_type header rest whole size other is place) (other_type header' rest' whole' size' other' is' place') = (is ∙ sym is', place ∙ sym place')
fault_once bytes q r m n (other_type header rest whole size other is place) (at_message header' before rest' ms whole' headed read goes broken place') =
    absurd (other (header_kind bytes header header' rest (before ++ rest') whole whole' size headed))
fault_once bytes q r m n (at_message header before rest ms whole headed read goes broken place) (too_short few is' place') = absurd (header_long bytes header (before ++ rest) whole headed.size few)
fault_once bytes q r m n (at_message header before rest ms whole headed read goes broken place) (other_type header' rest' whole' size other is' place') =
    absurd (other (header_kind bytes header' header rest' (before ++ rest) whole' whole size headed))
fault_once bytes q r m n (at_message header before rest ms whole headed read goes broken place) (at_message header' before' rest' ns whole' headed' read' goes' broken' place') =
    let x : Walked bytes header before rest ms = record { whole = whole; headed = headed; read = read; stops = fault_begins_none header rest q broken } in
    let y : Walked bytes header' before' rest' ns = record { whole = whole'; headed = headed'; read = read'; stops = fault_begins_none header' rest' r broken' } in
    let t = walked_once bytes header header' before before' rest rest' ms ns x y in
    (same_Some q r (sym broken ∙ (ap message_rule t.rests ∙ broken')), place ∙ (ap (λ (b : List ℕ). 58 + length b) t.fronts ∙ sym place'))

-- ---- what the reader answers
pub only_ok : (bytes : List ℕ) (r : Result (List FtsMessage) FtsError) → MatchResult r (FtsReads bytes) (FtsFaultOrMemory (FtsFault bytes)) → (ms : List FtsMessage) → FtsReads bytes ms → UnlessMemory OutOfMemory r (Ok ms)
only_ok bytes (Ok ns) h ms p = inl (ap Ok (packet_once bytes ns ms h p))
only_ok bytes (Err (Fault rule at)) h ms p = absurd (no_fault bytes ms rule at p h)
only_ok bytes (Err OutOfMemory) h ms p = inr refl

pub is_fault : (bytes : List ℕ) (r : Result (List FtsMessage) FtsError) → MatchResult r (FtsReads bytes) (FtsFaultOrMemory (FtsFault bytes)) → (rule : FtsRule) (at : ℕ) → r ≡ Err (Fault rule at) → FtsFault bytes rule at
is_fault bytes r h rule at e = subst (λ (x : Result (List FtsMessage) FtsError). MatchResult x (FtsReads bytes) (FtsFaultOrMemory (FtsFault bytes))) e h

pub only_fault : (bytes : List ℕ) (r : Result (List FtsMessage) FtsError) → MatchResult r (FtsReads bytes) (FtsFaultOrMemory (FtsFault bytes)) → (rule : FtsRule) (at : ℕ) → FtsFault bytes rule at → UnlessMemory OutOfMemory r (Err (Fault rule at))
only_fault bytes (Ok ns) h rule at f = absurd (no_fault bytes ns rule at h f)
only_fault bytes (Err (Fault q m)) h rule at f =
    let same : (q ≡ rule) × (m ≡ at) = fault_once bytes q rule m at h f in
    inl (ap (λ (x : FtsRule). Err (Fault x m)) same.0 ∙ ap (λ (n : ℕ). Err (Fault rule n)) same.1)
only_fault bytes (Err OutOfMemory) h rule at f = inr refl
