-- .JHR, first pass: the headers that are read are those of the layout, and the layout is read.
use Rattle.std.proofs.Common.{◌≡◌, ℕ, zero, suc, ◌+◌, ◌-◌, ◌*◌, ◌^◌, ◌≤◌, ◌<◌, List, [], ◌∷◌, ◌++◌, length, take, drop, Ok, refl, sym, ap, ◌∙◌, subst, arith, append_assoc, length-append}
use Rattle.std.specs.Prelude.{All, IsTrue}
use Rattle.std.proofs.lemmas.List.{take_at, drop_at, take-append-drop, drop-drop, length-take, length-drop}
use Rattle.std.proofs.lemmas.List.Elements.{All-drop, All-take, All-cons, All-nil}
use Rattle.jam_records.specs.byte_lists.Byte.{IsByte}
use Rattle.name_crc.specs.JamCrc.{jam_crc}
use Rattle.jam_records.specs.record_numbers.Numbers.{u16_at, IsU32}
use Rattle.jam_records.specs.MessageHeaders.{message_header_at, header_text, IsMessageHeader, MessageHeaderStands}
use Rattle.jam_records.specs.Subfields.{subfields_text}
use Rattle.jam_records.specs.declared.message.Kind.{Kind}
use Rattle.jam_records.specs.declared.message.Message.{Message}
use Rattle.jam_records.specs.declared.message_header.MessageHeader.{MessageHeader}
use Rattle.jam_records.proofs.HeaderLemmas.{header_stands}
use Rattle.damage_rules.specs.Rules.{◌>>=◌}
use Rattle.door_outside.specs.File.{jhr_file}
use Rattle.damage_rules.specs.Walk.{WalkStep, walk_from, walk}
use Rattle.jam_layout.specs.Fields.{subfields_of, values_at}
use Rattle.jam_layout.specs.Limits.{slot_limit}
use Rattle.jam_layout.specs.Marks.{attribute_of, is_net}
use Rattle.jam_layout.specs.Headers.{values_of, header_rules, message_of, entry_of, behind, step_of, header_at, marks_in, message_header, entry_text, headers_text, header_size}
use Rattle.jam_layout.specs.declared.entry.HeaderEntry.{HeaderEntry}
use Rattle.jam_layout.specs.declared.entry.Front.{Front}
use Rattle.jam_layout.specs.declared.fields.Values.{Values}
use Rattle.damage_rules.proofs.KeptRules.{Kept, rules_kept, kept_rules, bind_ok, ok_is}
use Rattle.damage_rules.proofs.RecordWalks.{walk_more, walk_done, behind_first, drop_one}
use Rattle.jam_records.proofs.record_numbers.NumberFronts.{u32_small}
use Rattle.jam_layout.proofs.RecordFronts.{header_front}
use Rattle.jam_layout.proofs.ValueLaws.{HasValues, RightTexts, right_texts, values_take, values_again, message_values, maybe_back, right_by_texts}
use Rattle.jam_layout.proofs.HeaderLaws.{HeaderKept, keep, keeps}
use Rattle.jam_layout.proofs.MarkLaws.{marks_again, right_attribute, attribute_right}

-- what a header may hold behind others
pub record HeaderFits (kind : Kind) (f : Front) (e : HeaderEntry) : Type 0 where
  pub rising : f.last < e.number
  pub few : e.number ≤ slot_limit
  pub text : e.text_len ≤ 16384
  pub bodiless : e.message.body ≡ []
  pub texts : RightTexts e.message
  pub private : IsTrue (is_net kind) → IsTrue e.message.private
  pub to : IsU32 e.link.to
  pub first : IsU32 e.link.first
  pub next : IsU32 e.link.next
  pub written : IsU32 e.message.written
  pub received : IsU32 e.message.received
  pub processed : IsU32 e.message.processed
  pub msgid : jam_crc e.message.msgid < 2 ^ 32
  pub reply : jam_crc e.message.replyid < 2 ^ 32
  pub short : length (subfields_text (subfields_of e.message)) < 2 ^ 31

abbrev pub HeadersFit : Kind → Front → List HeaderEntry → Type 0
HeadersFit kind f [] = Unit {0}
HeadersFit kind f (e ∷ es) = HeaderFits kind f e × HeadersFit kind (behind f e) es

has_read : (h : MessageHeader) (v : Values) → HasValues (message_of h v) v
unfolding message_of
has_read h v = record { origin = refl; destination = refl; from = refl; to = refl; msgid = refl; replyid = refl; subject = refl }

-- ---- what is read is the text of its entry
header_is : (kind : Kind) (f : Front) (bytes : List ℕ) (h : MessageHeader) (v : Values) → HeaderKept kind f h v bytes → h.subfield_len ≡ length (subfields_text (subfields_of (message_of h v))) → h ≡ message_header kind f.offset (entry_of h v)
unfolding message_header entry_of message_of
header_is kind f bytes h v k len = λ i. record {
  subfield_len = len i;
  times_read = k.times_read i;
  msgid_crc = k.msgid i;
  reply_crc = k.reply i;
  reply_to = h.reply_to;
  reply1st = h.reply1st;
  reply_next = h.reply_next;
  written = h.written;
  received = h.received;
  processed = h.processed;
  number = h.number;
  attribute = (right_attribute kind h.attribute k.attribute).0 i;
  attribute2 = k.attribute2 i;
  offset = k.offset i;
  text_len = h.text_len;
  password_crc = k.password i;
  cost = k.cost i;
}

pub header_takes : (kind : Kind) (f : Front) (bytes : List ℕ) → All IsByte bytes → length bytes < 2 ^ 31
    → let h = message_header_at bytes in let v = values_of h bytes in HeaderKept kind f h v bytes
    → (bytes ≡ entry_text kind f.offset (entry_of h v) ++ drop (76 + h.subfield_len) bytes) × HeaderFits kind f (entry_of h v)
unfolding entry_of message_of
header_takes kind f bytes fits small k =
    let h : MessageHeader = message_header_at bytes in
    let v : Values = values_of h bytes in
    let n : ℕ = h.subfield_len in
    let part : List ℕ = take n (drop 76 bytes) in
    let m : Message = message_of h v in
    let text : part ≡ subfields_text (subfields_of m) = values_take part m (All-take IsByte n (drop 76 bytes) (All-drop IsByte 76 bytes fits)) k.left k.values (has_read h v) in
    let len : n ≡ length (subfields_text (subfields_of m)) = omega (arith, length-take n (drop 76 bytes), length-drop 76 bytes, k.subfields) ∙ ap length text in
    let rest : drop 76 bytes ≡ subfields_text (subfields_of m) ++ drop (76 + n) bytes = sym (take-append-drop n (drop 76 bytes)) ∙ (ap (λ xs. xs ++ drop n (drop 76 bytes)) text ∙ ap (λ xs. subfields_text (subfields_of m) ++ xs) (drop-drop n 76 bytes)) in
    let whole : bytes ≡ entry_text kind f.offset (entry_of h v) ++ drop (76 + n) bytes =
    header_front bytes fits k.long k.signed k.revision k.reserved
    ∙ (ap (λ (x : MessageHeader). header_text x ++ drop 76 bytes) (header_is kind f bytes h v k len)
    ∙ (ap (λ xs. header_text (message_header kind f.offset (entry_of h v)) ++ xs) rest
    ∙ sym (append_assoc (header_text (message_header kind f.offset (entry_of h v))) (subfields_text (subfields_of m)) (drop (76 + n) bytes)))) in
    let short : length (subfields_text (subfields_of m)) < 2 ^ 31 = omega (arith, len, k.subfields) in (
      whole,
      record {
        rising = k.rising;
        few = k.few;
        text = k.text;
        bodiless = refl;
        texts = right_texts m v k.values (has_read h v);
        private = (right_attribute kind h.attribute k.attribute).1;
        to = u32_small 24 bytes fits;
        first = u32_small 28 bytes fits;
        next = u32_small 32 bytes fits;
        written = u32_small 36 bytes fits;
        received = u32_small 40 bytes fits;
        processed = u32_small 44 bytes fits;
        msgid = subst (λ (n : ℕ). n < 2 ^ 32) k.msgid (u32_small 16 bytes fits);
        reply = subst (λ (n : ℕ). n < 2 ^ 32) k.reply (u32_small 20 bytes fits);
        short = short;
      },
    )

-- ---- what is written is read
header_numbers : (kind : Kind) (f : Front) (e : HeaderEntry) → f.offset < 2 ^ 32 → HeaderFits kind f e → IsMessageHeader (message_header kind f.offset e)
unfolding message_header
header_numbers kind f e small fits =
    let h : MessageHeader = message_header kind f.offset e in
    let a : attribute_of kind (marks_in e.message) < 2 ^ 32 = (marks_again kind (marks_in e.message)).1 in
    let none : 0 < 2 ^ 32 = omega arith in
    let ones : 0xFFFF_FFFF < 2 ^ 32 = omega arith in
    All-cons IsU32 h.subfield_len (h.times_read ∷ h.msgid_crc ∷ h.reply_crc ∷ h.reply_to ∷ h.reply1st ∷ h.reply_next ∷ h.written ∷ h.received ∷ h.processed ∷ h.number ∷ h.attribute ∷ h.attribute2 ∷ h.offset ∷ h.text_len ∷ h.password_crc ∷ h.cost ∷ []) (omega (arith, fits.short)) (All-cons IsU32 h.times_read (h.msgid_crc ∷ h.reply_crc ∷ h.reply_to ∷ h.reply1st ∷ h.reply_next ∷ h.written ∷ h.received ∷ h.processed ∷ h.number ∷ h.attribute ∷ h.attribute2 ∷ h.offset ∷ h.text_len ∷ h.password_crc ∷ h.cost ∷ []) none (All-cons IsU32 h.msgid_crc (h.reply_crc ∷ h.reply_to ∷ h.reply1st ∷ h.reply_next ∷ h.written ∷ h.received ∷ h.processed ∷ h.number ∷ h.attribute ∷ h.attribute2 ∷ h.offset ∷ h.text_len ∷ h.password_crc ∷ h.cost ∷ []) fits.msgid (All-cons IsU32 h.reply_crc (h.reply_to ∷ h.reply1st ∷ h.reply_next ∷ h.written ∷ h.received ∷ h.processed ∷ h.number ∷ h.attribute ∷ h.attribute2 ∷ h.offset ∷ h.text_len ∷ h.password_crc ∷ h.cost ∷ []) fits.reply (All-cons IsU32 h.reply_to (h.reply1st ∷ h.reply_next ∷ h.written ∷ h.received ∷ h.processed ∷ h.number ∷ h.attribute ∷ h.attribute2 ∷ h.offset ∷ h.text_len ∷ h.password_crc ∷ h.cost ∷ []) fits.to (All-cons IsU32 h.reply1st (h.reply_next ∷ h.written ∷ h.received ∷ h.processed ∷ h.number ∷ h.attribute ∷ h.attribute2 ∷ h.offset ∷ h.text_len ∷ h.password_crc ∷ h.cost ∷ []) fits.first (All-cons IsU32 h.reply_next (h.written ∷ h.received ∷ h.processed ∷ h.number ∷ h.attribute ∷ h.attribute2 ∷ h.offset ∷ h.text_len ∷ h.password_crc ∷ h.cost ∷ []) fits.next (All-cons IsU32 h.written (h.received ∷ h.processed ∷ h.number ∷ h.attribute ∷ h.attribute2 ∷ h.offset ∷ h.text_len ∷ h.password_crc ∷ h.cost ∷ []) fits.written (All-cons IsU32 h.received (h.processed ∷ h.number ∷ h.attribute ∷ h.attribute2 ∷ h.offset ∷ h.text_len ∷ h.password_crc ∷ h.cost ∷ []) fits.received (All-cons IsU32 h.processed (h.number ∷ h.attribute ∷ h.attribute2 ∷ h.offset ∷ h.text_len ∷ h.password_crc ∷ h.cost ∷ []) fits.processed (All-cons IsU32 h.number (h.attribute ∷ h.attribute2 ∷ h.offset ∷ h.text_len ∷ h.password_crc ∷ h.cost ∷ []) (omega (arith, fits.few)) (All-cons IsU32 h.attribute (h.attribute2 ∷ h.offset ∷ h.text_len ∷ h.password_crc ∷ h.cost ∷ []) a (All-cons IsU32 h.attribute2 (h.offset ∷ h.text_len ∷ h.password_crc ∷ h.cost ∷ []) none (All-cons IsU32 h.offset (h.text_len ∷ h.password_crc ∷ h.cost ∷ []) small (All-cons IsU32 h.text_len (h.password_crc ∷ h.cost ∷ []) (omega (arith, fits.text)) (All-cons IsU32 h.password_crc (h.cost ∷ []) ones (All-cons IsU32 h.cost ([]) none (All-nil IsU32)))))))))))))))))

reserved_is : (h : MessageHeader) (rest : List ℕ) → u16_at 6 (header_text h ++ rest) ≡ 0
unfolding u16_at header_text
reserved_is h rest = refl

behind_header : (h : MessageHeader) (rest : List ℕ) → drop 76 (header_text h ++ rest) ≡ rest
unfolding header_text
behind_header h rest = refl

header_length : (h : MessageHeader) → length (header_text h) ≡ 76
unfolding header_text
header_length h = omega arith

message_again : (kind : Kind) (f : Front) (e : HeaderEntry) → HeaderFits kind f e → message_of (message_header kind f.offset e) (message_values e.message) ≡ e.message
unfolding message_of message_header
message_again kind f e fits =
    let m : Message = e.message in
    let marks = (marks_again kind (marks_in m)).0 in
    λ i. record {
      from = maybe_back m.from i;
      to = maybe_back m.to i;
      subject = maybe_back m.subject i;
      msgid = maybe_back m.msgid i;
      replyid = maybe_back m.replyid i;
      origin = maybe_back m.origin i;
      destination = maybe_back m.destination i;
      body = sym fits.bodiless i;
      written = m.written;
      received = m.received;
      processed = m.processed;
      local = (marks i).local;
      private = (marks i).private;
      seen = (marks i).seen;
      deleted = (marks i).deleted;
    }

entry_again : (kind : Kind) (f : Front) (e : HeaderEntry) → HeaderFits kind f e → entry_of (message_header kind f.offset e) (message_values e.message) ≡ e
unfolding entry_of message_header
entry_again kind f e fits = λ i. record { number = e.number; text_len = e.text_len; link = e.link; message = message_again kind f e fits i }

kept_again : (kind : Kind) (f : Front) (e : HeaderEntry) (bytes : List ℕ) → HeaderFits kind f e → MessageHeaderStands bytes (message_header kind f.offset e) → u16_at 6 bytes ≡ 0
    → 76 + length (subfields_text (subfields_of e.message)) ≤ length bytes → HeaderKept kind f (message_header kind f.offset e) (message_values e.message) bytes
unfolding message_header
kept_again kind f e bytes fits stands reserved long = record {
  long = stands.whole;
  signed = stands.signed;
  revision = stands.revision;
  reserved = reserved;
  times_read = refl;
  attribute2 = refl;
  password = refl;
  cost = refl;
  rising = fits.rising;
  few = fits.few;
  attribute = attribute_right kind (marks_in e.message) fits.private;
  offset = refl;
  text = fits.text;
  subfields = long;
  left = refl;
  values = right_by_texts e.message fits.texts;
  msgid = ap jam_crc (sym (maybe_back e.message.msgid));
  reply = ap jam_crc (sym (maybe_back e.message.replyid));
}

-- the step behind an entry
abbrev pub step_behind : Front → HeaderEntry → WalkStep Front HeaderEntry
step_behind f e = record { value = e; size = header_size e.message; next = behind f e }

values_found : (kind : Kind) (f : Front) (e : HeaderEntry) (rest : List ℕ) → HeaderFits kind f e → values_of (message_header kind f.offset e) (header_text (message_header kind f.offset e) ++ (subfields_text (subfields_of e.message) ++ rest)) ≡ message_values e.message
unfolding message_header
values_found kind f e rest fits =
    let h : MessageHeader = message_header kind f.offset e in
    let subs : List ℕ = subfields_text (subfields_of e.message) in
    ap (λ xs. values_at (take (length subs) xs)) (behind_header h (subs ++ rest))
    ∙ ap values_at (take_at subs rest (length subs) refl)
    ∙ values_again e.message (omega (arith, fits.short))

step_is : (kind : Kind) (f : Front) (e : HeaderEntry) → HeaderFits kind f e → step_of f (message_header kind f.offset e) (message_values e.message) ≡ step_behind f e
unfolding message_header header_size
step_is kind f e fits =
    ap (λ (x : HeaderEntry). record { value = x; size = 76 + length (subfields_text (subfields_of e.message)); next = behind f x }) (entry_again kind f e fits)

pub header_again : (place : ℕ) (kind : Kind) (f : Front) (e : HeaderEntry) (rest : List ℕ) → f.offset < 2 ^ 32 → HeaderFits kind f e → header_at place kind f (entry_text kind f.offset e ++ rest) ≡ Ok (step_behind f e)
unfolding header_at
header_again place kind f e rest small fits =
    let h : MessageHeader = message_header kind f.offset e in
    let subs : List ℕ = subfields_text (subfields_of e.message) in
    let bytes : List ℕ = header_text h ++ (subs ++ rest) in
    let v : Values = message_values e.message in
    let stands : MessageHeaderStands bytes h = header_stands h (subs ++ rest) (header_numbers kind f e small fits) in
    let long : 76 + length subs ≤ length bytes = omega (arith, length-append (header_text h) (subs ++ rest), length-append subs rest, header_length h) in
    let kept : HeaderKept kind f h v bytes = kept_again kind f e bytes fits stands (reserved_is h (subs ++ rest)) long in
    let found : v ≡ values_of h bytes = sym (values_found kind f e rest fits) in
    let rules : Kept (header_rules kind f bytes) = keeps kind f bytes h v stands.fields found kept in
    let step : step_of f (message_header_at bytes) (values_of (message_header_at bytes) bytes) ≡ step_behind f e =
    ap (λ (x : MessageHeader). step_of f x (values_of x bytes)) (sym stands.fields) ∙ (ap (λ (x : Values). step_of f h x) (sym found) ∙ step_is kind f e fits) in
    ap (header_at place kind f) (append_assoc (header_text h) subs rest)
    ∙ (kept_rules (jhr_file place) f.item (header_rules kind f bytes) (step_of f (message_header_at bytes) (values_of (message_header_at bytes) bytes)) rules
    ∙ ap (λ (x : WalkStep Front HeaderEntry). Ok x) step)

-- ---- the headers, one after the other
abbrev nothing : List ℕ
nothing = []

drop_none : (n : ℕ) → drop n (nothing) ≡ nothing
drop_none zero = refl
drop_none (suc n) = refl

pub headers_take : (place : ℕ) (kind : Kind) (left : ℕ) (f : Front) (bytes : List ℕ) (es : List HeaderEntry) (last : Front) → All IsByte bytes → length bytes < 2 ^ 31 → walk_from (header_at place kind) left f bytes ≡ Ok (es, last) → (drop left bytes ≡ headers_text kind f.offset es) × HeadersFit kind f es
unfolding walk_from header_at
headers_take place kind left f [] es last fits short e =
    let none : [] ≡ es = ap (λ (x : List HeaderEntry × Front). x.0) (ok_is ([], f) (es, last) e) in
    subst (λ (xs : List HeaderEntry). (drop left nothing ≡ headers_text kind f.offset xs) × HeadersFit kind f xs) none (drop_none left, tt)
headers_take place kind (suc left) f (b ∷ bytes) es last fits short e = headers_take place kind left f bytes es last (All-drop IsByte 1 (b ∷ bytes) fits) (omega arith) e
headers_take place kind zero f (b ∷ bytes) es last fits short e =
    let whole : List ℕ = b ∷ bytes in
    let h : MessageHeader = message_header_at whole in
    let v : Values = values_of h whole in
    let one : HeaderEntry = entry_of h v in
    let a = bind_ok (header_at place kind f whole) (λ first. walk_from (header_at place kind) (first.size - 1) first.next bytes >>= λ others. Ok (first.value ∷ others.0, others.1)) (es, last) e in
    let d = bind_ok (walk_from (header_at place kind) (a.0.size - 1) a.0.next bytes) (λ others. Ok (a.0.value ∷ others.0, others.1)) (es, last) a.2 in
    let k = rules_kept (jhr_file place) f.item (header_rules kind f whole) (step_of f h v) a.0 a.1 in
    let first = header_takes kind f whole fits short (keep kind f whole k.0) in
    let others = headers_take place kind (a.0.size - 1) a.0.next bytes d.0.0 d.0.1 (All-drop IsByte 1 whole fits) (omega arith) d.1 in
    let value : one ≡ a.0.value = ap (λ (x : WalkStep Front HeaderEntry). x.value) k.1 in
    let size : 76 + h.subfield_len ≡ a.0.size = ap (λ (x : WalkStep Front HeaderEntry). x.size) k.1 in
    let next : behind f one ≡ a.0.next = ap (λ (x : WalkStep Front HeaderEntry). x.next) k.1 in
    let rest : drop (76 + h.subfield_len) whole ≡ headers_text kind (f.offset + one.text_len) d.0.0 =
    ap (λ n. drop n whole) size ∙ (sym (drop_one a.0.size b bytes (omega (arith, size))) ∙ (others.0 ∙ ap (λ (x : Front). headers_text kind x.offset d.0.0) (sym next))) in
    let text : whole ≡ headers_text kind f.offset (one ∷ d.0.0) = first.0 ∙ ap (λ xs. entry_text kind f.offset one ++ xs) rest in
    let ok : HeadersFit kind f (one ∷ d.0.0) = (first.1, subst (λ (x : Front). HeadersFit kind x d.0.0) (sym next) others.1) in
    let all : a.0.value ∷ d.0.0 ≡ es = ap (λ (x : List HeaderEntry × Front). x.0) (ok_is (a.0.value ∷ d.0.0, d.0.1) (es, last) d.2) in
    subst (λ (xs : List HeaderEntry). (whole ≡ headers_text kind f.offset xs) × HeadersFit kind f xs) (ap (λ (x : HeaderEntry). x ∷ d.0.0) value ∙ all) (text, ok)

pub entry_length : (kind : Kind) (offset : ℕ) (e : HeaderEntry) → length (entry_text kind offset e) ≡ header_size e.message
unfolding header_size
entry_length kind offset e =
    let h : MessageHeader = message_header kind offset e in
    length-append (header_text h) (subfields_text (subfields_of e.message)) ∙ ap (λ n. n + length (subfields_text (subfields_of e.message))) (header_length h)

size_some : (m : Message) → 0 < header_size m
unfolding header_size
size_some m = omega arith

pub headers_again : (place : ℕ) (kind : Kind) (f : Front) (es : List HeaderEntry) → f.offset ≤ 16384 * f.last → f.last ≤ slot_limit → HeadersFit kind f es → (last : Front) × (walk (header_at place kind) f (headers_text kind f.offset es) ≡ Ok (es, last))
headers_again place kind f [] small few fits = (f, walk_done (header_at place kind) f [] refl)
headers_again place kind f (e ∷ es) small few fits =
    let rest : List ℕ = headers_text kind (f.offset + e.text_len) es in
    let text : List ℕ = entry_text kind f.offset e in
    let one = header_again place kind f e rest (omega arith) fits.0 in
    let others = headers_again place kind (behind f e) es (omega (arith, fits.0.rising, fits.0.text)) fits.0.few fits.1 in
    let len = entry_length kind f.offset e in
    let after : drop (header_size e.message) (text ++ rest) ≡ rest = drop_at text rest (header_size e.message) len in
    let some : 0 < length (text ++ rest) = omega (arith, length-append text rest, len, size_some e.message) in
    (others.0, walk_more (header_at place kind) f (text ++ rest) (step_behind f e) some one (size_some e.message) ∙ ap (λ xs. behind_first e (walk (header_at place kind) (behind f e) xs)) after ∙ ap (behind_first e) others.1)
