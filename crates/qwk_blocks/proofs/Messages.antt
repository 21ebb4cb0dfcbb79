-- Bytes read as one message, and one list of messages, at most.
use Rattle.std.proofs.Common.{◌≡◌, ℕ, ◌+◌, ◌-◌, ◌*◌, ◌<◌, ◌≤◌, List, [], ◌∷◌, ◌++◌, length, take, drop, Option, Some, None, refl, sym, ap, ◌∙◌, subst, inl, inr, arith, length-append}
use Rattle.std.proofs.lemmas.List.{take_at, take-take, append_assoc, append-nil, drop-take, length-take-le, length-drop, take-append-drop}
use Rattle.std.proofs.lemmas.List.Elements.{All-head, All-tail}
use Rattle.std.proofs.lemmas.Bool.{cases_lt}
use Rattle.std.specs.List.{All}
use Rattle.text_fields.specs.Lines.{if_any}
use Rattle.text_fields.specs.Trim.{TrimmedEnd}
use Rattle.text_fields.proofs.Numbers.{number_unique}
use Rattle.text_fields.proofs.Splits.{not_split, split_once}
use Rattle.text_fields.proofs.Trimming.{same_front, same_rest, trimmed_end_unique}
use Rattle.qwk_blocks.specs.Header.{IsPad, field, HasNumber, BlockCountReads, HeaderReads}
use Rattle.qwk_blocks.specs.Text.{joined_lines, IsLine, TextReads}
use Rattle.qwk_blocks.specs.Packet.{MessageReads, MessagesRead, PacketReads, PacketAt}
use Rattle.qwk_blocks.specs.declared.message.Header.{Header}
use Rattle.qwk_blocks.specs.declared.message.QwkMessage.{QwkMessage}

-- the first line of several, and what follows it
front_line : (x : List ℕ) (xs : List (List ℕ)) (r : List ℕ) → joined_lines (x ∷ xs) ++ r ≡ x ++ 0xE3 ∷ (joined_lines xs ++ r)
front_line x xs r = append_assoc (x ++ 0xE3 ∷ []) (joined_lines xs) r ∙ append_assoc x (0xE3 ∷ []) (joined_lines xs ++ r)

lines_once : (xs ys : List (List ℕ)) (r s : List ℕ) → All IsLine xs → All IsLine ys → IsLine r → IsLine s → joined_lines xs ++ r ≡ joined_lines ys ++ s → (xs ≡ ys) × (r ≡ s)
lines_once [] [] r s p q a b e = (refl, e)
lines_once [] (y ∷ ys) r s p q a b e = absurd (not_split 0xE3 r y (joined_lines ys ++ s) a (e ∙ front_line y ys s))
lines_once (x ∷ xs) [] r s p q a b e = absurd (not_split 0xE3 s x (joined_lines xs ++ r) b (sym e ∙ front_line x xs r))
lines_once (x ∷ xs) (y ∷ ys) r s p q a b e =
    let t : (x ≡ y) × (joined_lines xs ++ r ≡ joined_lines ys ++ s) = split_once 0xE3 x y _ _ (All-head IsLine x xs p) (All-head IsLine y ys q) (sym (front_line x xs r) ∙ (e ∙ front_line y ys s)) in
    let u : (xs ≡ ys) × (r ≡ s) = lines_once xs ys r s (All-tail IsLine x xs p) (All-tail IsLine y ys q) a b t.1 in
    let h : x ≡ y = t.0 in
    let k : xs ≡ ys = u.0 in
    (cc, u.1)

pub lines_unique : (bytes : List ℕ) (a b : List (List ℕ)) → TextReads bytes a → TextReads bytes b → a ≡ b
lines_unique bytes a b t u =
    let s : (t.ended_lines ≡ u.ended_lines) × (t.rest ≡ u.rest) = lines_once t.ended_lines u.ended_lines t.rest u.rest t.each u.each t.no_end u.no_end (sym t.whole ∙ u.whole) in
    let l : t.last ≡ u.last = trimmed_end_unique IsPad u.rest t.last u.last (subst (λ (r : List ℕ). TrimmedEnd IsPad r t.last) s.1 t.trimmed) u.trimmed in
    t.all ∙ (ap (λ xs. xs ++ if_any t.last) s.0 ∙ (ap (λ x. u.ended_lines ++ if_any x) l ∙ sym u.all))

-- a header from its fields
made : ℕ → Option ℕ → List ℕ → List ℕ → List ℕ → List ℕ → List ℕ → List ℕ → Option ℕ → ℕ → ℕ → ℕ → ℕ → Header
made status number date time to from subject password reference activity conference logical tag = record {
  status = status;
  number = number;
  date = date;
  time = time;
  to = to;
  from = from;
  subject = subject;
  password = password;
  reference = reference;
  activity = activity;
  conference = conference;
  logical = logical;
  tag = tag;
}

made_is : (h : Header) → h ≡ made h.status h.number h.date h.time h.to h.from h.subject h.password h.reference h.activity h.conference h.logical h.tag
unfolding made
made_is h = refl

pub count_unique : (block : List ℕ) (m n : ℕ) → BlockCountReads block m → BlockCountReads block n → m ≡ n
count_unique block m n x y = number_unique IsPad 6 6 (field 117 6 block) m n x.number y.number

number_is_one : (place width : ℕ) (block : List ℕ) (m n : Option ℕ) → HasNumber place width block m → HasNumber place width block n → m ≡ n
number_is_one place width block None None x y = refl
number_is_one place width block None (Some n) x y = absurd (x n y)
number_is_one place width block (Some m) None x y = absurd (y m x)
number_is_one place width block (Some m) (Some n) x y = ap Some (number_unique IsPad width width (field place width block) m n x y)

header_unique : (block : List ℕ) (a b : Header) (m n : ℕ) → HeaderReads block a m → HeaderReads block b n → a ≡ b
header_unique block a b m n x y =
    let status : a.status ≡ b.status = x.status ∙ sym y.status in
    let number : a.number ≡ b.number = number_is_one 2 7 block a.number b.number x.number y.number in
    let date : a.date ≡ b.date = x.date ∙ sym y.date in
    let time : a.time ≡ b.time = x.time ∙ sym y.time in
    let to : a.to ≡ b.to = trimmed_end_unique IsPad _ _ _ x.to y.to in
    let from : a.from ≡ b.from = trimmed_end_unique IsPad _ _ _ x.from y.from in
    let subject : a.subject ≡ b.subject = trimmed_end_unique IsPad _ _ _ x.subject y.subject in
    let password : a.password ≡ b.password = trimmed_end_unique IsPad _ _ _ x.password y.password in
    let reference : a.reference ≡ b.reference = number_is_one 109 8 block a.reference b.reference x.reference y.reference in
    let activity : a.activity ≡ b.activity = x.activity ∙ sym y.activity in
    let conference : a.conference ≡ b.conference = x.conference ∙ sym y.conference in
    let logical : a.logical ≡ b.logical = x.logical ∙ sym y.logical in
    let tag : a.tag ≡ b.tag = x.tag ∙ sym y.tag in
    let p : a ≡ made a.status a.number a.date a.time a.to a.from a.subject a.password a.reference a.activity a.conference a.logical a.tag = made_is a in
    let q : b ≡ made b.status b.number b.date b.time b.to b.from b.subject b.password b.reference b.activity b.conference b.logical b.tag = made_is b in
    cc

pub length_message : (a : List ℕ) (m : QwkMessage) (x : MessageReads a m) → length a ≡ 128 * x.count
length_message a m x =
    let e : length a ≡ length x.block + length x.text = ap length x.whole ∙ length-append x.block x.text in
    omega (arith, x.header.size, x.size, x.header.blocks.positive)

message_made : List ℕ → Header → List (List ℕ) → QwkMessage
message_made a h ls = record { header = h; lines = ls }

message_is : (m : QwkMessage) → m ≡ message_made [] m.header m.lines
unfolding message_made
message_is m = refl

-- two messages that begin the same bytes are one
pub heads : (a b x y : List ℕ) (m n : QwkMessage) → MessageReads a m → MessageReads b n → a ++ x ≡ b ++ y → (a ≡ b) × (m ≡ n) × (x ≡ y)
heads a b x y m n s t e =
    let e' : s.block ++ (s.text ++ x) ≡ t.block ++ (t.text ++ y) =
    sym (append_assoc s.block s.text x) ∙ (ap (λ xs. xs ++ x) (sym s.whole) ∙ (e ∙ (ap (λ xs. xs ++ y) t.whole ∙ append_assoc t.block t.text y))) in
    let sizes : length s.block ≡ length t.block = s.header.size ∙ sym t.header.size in
    let blocks : s.block ≡ t.block = same_front s.block t.block _ _ sizes e' in
    let texts' : s.text ++ x ≡ t.text ++ y = same_rest s.block t.block _ _ sizes e' in
    let counts : s.count ≡ t.count = count_unique t.block s.count t.count (subst (λ (k : List ℕ). BlockCountReads k s.count) blocks s.header.blocks) t.header.blocks in
    let lens : length s.text ≡ length t.text = omega (arith, s.size, t.size, counts) in
    let texts : s.text ≡ t.text = same_front s.text t.text x y lens texts' in
    let rests : x ≡ y = same_rest s.text t.text x y lens texts' in
    let headers : m.header ≡ n.header = header_unique t.block m.header n.header s.count t.count (subst (λ (k : List ℕ). HeaderReads k m.header s.count) blocks s.header) t.header in
    let lines : m.lines ≡ n.lines = lines_unique t.text m.lines n.lines (subst (λ (k : List ℕ). TextReads k m.lines) texts s.lines) t.lines in
    let p : m ≡ message_made [] m.header m.lines = message_is m in
    let q : n ≡ message_made [] n.header n.lines = message_is n in
    let sw : a ≡ s.block ++ s.text = s.whole in
    let tw : b ≡ t.block ++ t.text = t.whole in
    (cc, cc, rests)

not_nil : (a : List ℕ) (m : QwkMessage) (x : List ℕ) → MessageReads a m → [] ≡ a ++ x → ⊥
not_nil a m x s e = omega (arith, ap length e, length-append a x, length_message a m s, s.header.blocks.positive)

messages_unique : (bytes : List ℕ) (ms ns : List QwkMessage) → MessagesRead bytes ms → MessagesRead bytes ns → ms ≡ ns
messages_unique bytes [] [] p q = refl
messages_unique bytes [] (n ∷ ns) p q = absurd (not_nil q.0 n q.1 q.3 (sym p ∙ q.2))
messages_unique bytes (m ∷ ms) [] p q = absurd (not_nil p.0 m p.1 p.3 (sym q ∙ p.2))
messages_unique bytes (m ∷ ms) (n ∷ ns) p q =
    let h : (p.0 ≡ q.0) × (m ≡ n) × (p.1 ≡ q.1) = heads p.0 q.0 p.1 q.1 m n p.3 q.3 (sym p.2 ∙ q.2) in
    let r : ms ≡ ns = messages_unique q.1 ms ns (subst (λ (k : List ℕ). MessagesRead k ms) h.2 p.4) q.4 in
    let first : m ≡ n = h.1 in
    cc

pub packet_unique : (bytes : List ℕ) (ms ns : List QwkMessage) → PacketReads bytes ms → PacketReads bytes ns → ms ≡ ns
packet_unique bytes ms ns p q =
    let e : p.notice ++ p.rest ≡ q.notice ++ q.rest = sym p.whole ∙ q.whole in
    let r : p.rest ≡ q.rest = same_rest p.notice q.notice p.rest q.rest (p.size ∙ sym q.size) e in
    messages_unique q.rest ms ns (subst (λ (k : List ℕ). MessagesRead k ms) r p.each) q.each

-- more messages at the end
pub messages_push : (bytes more : List ℕ) (ms : List QwkMessage) (m : QwkMessage) → MessagesRead bytes ms → MessageReads more m → MessagesRead (bytes ++ more) (ms ++ m ∷ [])
messages_push bytes more [] m p s = (more, [], ap (λ xs. xs ++ more) p ∙ sym (append-nil more), s, refl)
messages_push bytes more (n ∷ ns) m p s = (p.0, p.1 ++ more, ap (λ xs. xs ++ more) p.2 ∙ append_assoc p.0 p.1 more, p.3, messages_push p.1 more ns m p.4 s)

pub packet_push : (bytes more : List ℕ) (ms : List QwkMessage) (m : QwkMessage) → PacketReads bytes ms → MessageReads more m → PacketReads (bytes ++ more) (ms ++ m ∷ [])
packet_push bytes more ms m p s = record {
  notice = p.notice;
  rest = p.rest ++ more;
  whole = ap (λ xs. xs ++ more) p.whole ∙ append_assoc p.notice p.rest more;
  size = p.size;
  each = messages_push p.rest more ms m p.each s;
}

-- what follows a front of messages is messages
after_front : (bytes more : List ℕ) (ms ns : List QwkMessage) → MessagesRead bytes ms → MessagesRead (bytes ++ more) ns → (rest : List QwkMessage) × MessagesRead more rest
after_front bytes more [] ns p q = (ns, subst (λ (k : List ℕ). MessagesRead k ns) (ap (λ xs. xs ++ more) p) q)
after_front bytes more (m ∷ ms) [] p q = absurd (not_nil p.0 m (p.1 ++ more) p.3 (sym q ∙ (ap (λ xs. xs ++ more) p.2 ∙ append_assoc p.0 p.1 more)))
after_front bytes more (m ∷ ms) (n ∷ ns) p q =
    let e : p.0 ++ (p.1 ++ more) ≡ q.0 ++ q.1 = sym (ap (λ xs. xs ++ more) p.2 ∙ append_assoc p.0 p.1 more) ∙ q.2 in
    let h : (p.0 ≡ q.0) × (m ≡ n) × (p.1 ++ more ≡ q.1) = heads p.0 q.0 (p.1 ++ more) q.1 m n p.3 q.3 e in
    after_front p.1 more ms ns p.4 (subst (λ (k : List ℕ). MessagesRead k ns) (sym h.2) q.4)

pub split_take : (i n : ℕ) (xs : List ℕ) → i ≤ n → take n xs ≡ take i xs ++ take (n - i) (drop i xs)
split_take i n xs le =
    let e : i + (n - i) ≡ n = omega arith in
    sym (take-append-drop i (take n xs)) ∙ (ap (λ ys. ys ++ drop i (take n xs)) (take-take i n xs le) ∙ ap (λ ys. take i xs ++ ys) (ap (λ k. drop i (take k xs)) (sym e) ∙ drop-take i (n - i) xs))

-- where messages are read from a front that isn't empty, the first one is a front
some_front : (bytes : List ℕ) (n : ℕ) (ms : List QwkMessage) → 0 < n → n ≤ length bytes → MessagesRead (take n bytes) ms
    → ((k : ℕ) (m : QwkMessage) → k ≤ length bytes → MessageReads (take k bytes) m → ⊥) → ⊥
some_front bytes n [] some le p none = omega (arith, ap length p, length-take-le n bytes le)
some_front bytes n (m ∷ ms) some le p none =
    let k : ℕ = length p.0 in
    let short : k ≤ n = omega (arith, ap length p.2, length-append p.0 p.1, length-take-le n bytes le) in
    let e : take k bytes ≡ p.0 = sym (take-take k n bytes short) ∙ (ap (take k) p.2 ∙ take_at p.0 p.1 k refl) in
    none k m (omega arith) (subst (λ (xs : List ℕ). MessageReads xs m) (sym e) p.3)

-- bytes that begin with no message follow the longest front that is a packet
pub longest : (bytes : List ℕ) (at : ℕ) (ms : List QwkMessage) → at ≤ length bytes → PacketReads (take at bytes) ms
    → ((n : ℕ) (m : QwkMessage) → n ≤ length (drop at bytes) → MessageReads (take n (drop at bytes)) m → ⊥)
    → (n : ℕ) → PacketAt bytes n → n ≤ at
longest bytes at ms le p none n q = elim (cases_lt at n) [
  | inr ge ↦ ge
  | inl lt ↦
      let more : List ℕ = take (n - at) (drop at bytes) in
      let packet : PacketReads (take n bytes) q.1.0 = q.1.1 in
      let e : take n bytes ≡ take at bytes ++ more = split_take at n bytes (omega arith) in
      let w : (p.notice ++ p.rest) ++ more ≡ packet.notice ++ packet.rest = ap (λ xs. xs ++ more) (sym p.whole) ∙ (sym e ∙ packet.whole) in
      let w' : p.notice ++ (p.rest ++ more) ≡ packet.notice ++ packet.rest = sym (append_assoc p.notice p.rest more) ∙ w in
      let r : p.rest ++ more ≡ packet.rest = same_rest p.notice packet.notice _ _ (p.size ∙ sym packet.size) w' in
      let tail : (rest : List QwkMessage) × MessagesRead more rest = after_front p.rest more ms q.1.0 p.each (subst (λ (k : List ℕ). MessagesRead k q.1.0) (sym r) packet.each) in
      absurd (some_front (drop at bytes) (n - at) tail.0 (omega arith) (omega (arith, length-drop at bytes, q.0)) tail.1 none)
]
