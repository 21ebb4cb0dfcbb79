-- What is read of bytes is writable.
use Rattle.std.proofs.Common.{◌≡◌, ◌≢◌, ℕ, ◌+◌, ◌-◌, ◌^◌, ◌<◌, ◌≤◌, List, [], ◌∷◌, ◌++◌, Option, Some, None, Result, Ok, Err, length, get_or, take, drop, refl, sym, ap, ◌∙◌, subst, inl, inr, arith, length-append, length-take, length-drop}
use Rattle.std.proofs.lemmas.Bool.{cases_lt}
use Rattle.std.proofs.lemmas.List.{take_at, get_or_append_left, get_or-append-add, get_or_past}
use Rattle.std.proofs.lemmas.List.Concat.{flat_map-append}
use Rattle.std.proofs.lemmas.List.Elements.{All-nil, All-cons, All-take, All-append}
use Rattle.std.specs.List.{All}
use Rattle.std.specs.Option.{IfSome}
use Rattle.std.specs.Result.{IfOk}
use Rattle.qwk_blocks.specs.Header.{IsPad, HasText, HasNumber, HeaderReads}
use Rattle.text_fields.specs.Lines.{if_any}
use Rattle.text_fields.specs.Trim.{TrimmedEnd}
use Rattle.qwk_blocks.specs.Packet.{MessageReads, MessagesRead}
use Rattle.qwk_blocks.specs.Answer.{ReadsOrFaults}
use Rattle.qwk_blocks.specs.Text.{joined_lines, IsLine, TextReads}
use Rattle.qwk_blocks.specs.Written.{TextFits, HeaderFits, Writable}
use Rattle.qwk_blocks.specs.declared.message.Header.{Header}
use Rattle.qwk_blocks.specs.declared.message.QwkMessage.{QwkMessage}
use Rattle.qwk_blocks.specs.declared.fault.QwkError.{QwkError}
use Rattle.text_fields.proofs.Numbers.{number_small}

abbrev pub IsBytes : List ℕ → Type 0
IsBytes bytes = (i : ℕ) → get_or bytes i 0 < 256

bytes_front : (a b : List ℕ) → IsBytes (a ++ b) → IsBytes a
bytes_front a b h i = elim (cases_lt i (length a)) [
  | inl lt ↦ subst (λ (n : ℕ). n < 256) (get_or_append_left a b 0 i lt) (h i)
  | inr ge ↦ subst (λ (n : ℕ). n < 256) (sym (get_or_past a i 0 ge)) (omega arith)
]

bytes_rest : (a b : List ℕ) → IsBytes (a ++ b) → IsBytes b
bytes_rest a b h i = subst (λ (n : ℕ). n < 256) (get_or-append-add a b i 0) (h (length a + i))

fits : (place w : ℕ) (block text : List ℕ) → HasText place w block text → TextFits w text
fits place w block text t = record {
  short = omega (arith, ap length t.whole, length-append text t.pad, length-take w (drop (place - 1) block));
  trimmed = t.ends;
}

number_fits : (place w : ℕ) (block : List ℕ) (n : Option ℕ) → HasNumber place w block n → IfSome n (λ k. k < 10 ^ w)
number_fits place w block None x = tt
number_fits place w block (Some n) x = number_small IsPad w _ n x

at_most : (k m : ℕ) (n : Option ℕ) → k ≤ m + 1 → IfSome n (λ i. i < k) → IfSome n (λ i. i ≤ m)
at_most k m None le h = tt
at_most k m (Some n) le h = omega arith

header_fits : (block : List ℕ) (h : Header) (count : ℕ) → IsBytes block → HeaderReads block h count → HeaderFits h
header_fits block h count bytes x = record {
  number = at_most (10 ^ 7) 9999999 h.number (omega arith) (number_fits 2 7 block h.number x.number);
  date = ap length x.date ∙ omega (arith, length-take 8 (drop 8 block), length-drop 8 block, x.size);
  time = ap length x.time ∙ omega (arith, length-take 5 (drop 16 block), length-drop 16 block, x.size);
  texts = record {
    to = fits 22 25 block h.to x.to;
    from = fits 47 25 block h.from x.from;
    subject = fits 72 25 block h.subject x.subject;
    password = fits 97 12 block h.password x.password;
  };
  reference = at_most (10 ^ 8) 99999999 h.reference (omega arith) (number_fits 109 8 block h.reference x.reference);
  conference = omega (arith, x.conference, bytes 123, bytes 124);
  logical = omega (arith, x.logical, bytes 125, bytes 126);
}

last_line : (rest last : List ℕ) → TrimmedEnd IsPad rest last → IsLine rest → All IsLine (if_any last)
last_line rest [] t line = All-nil IsLine
last_line rest (b ∷ bs) t line =
    let e : take (length (b ∷ bs)) rest ≡ b ∷ bs = ap (take (length (b ∷ bs))) t.whole ∙ take_at (b ∷ bs) t.pad (length (b ∷ bs)) refl in
    All-cons IsLine (b ∷ bs) [] (subst IsLine e (All-take (λ c. c ≢ 0xE3) (length (b ∷ bs)) rest line)) (All-nil IsLine)

last_length : (last : List ℕ) → length (joined_lines (if_any last)) ≤ length last + 1
last_length [] = omega arith
last_length (b ∷ bs) = omega (arith, length-append ((b ∷ bs) ++ 0xE3 ∷ []) [], length-append (b ∷ bs) (0xE3 ∷ []))

text_length : (text : List ℕ) (lines : List (List ℕ)) → TextReads text lines → length (joined_lines lines) ≤ length text + 1
text_length text lines t =
    let e : joined_lines lines ≡ joined_lines t.ended_lines ++ joined_lines (if_any t.last) = ap joined_lines t.all ∙ flat_map-append (λ (line : List ℕ). line ++ 0xE3 ∷ []) t.ended_lines (if_any t.last) in
    omega (
      arith,
      ap length e,
      length-append (joined_lines t.ended_lines) (joined_lines (if_any t.last)),
      last_length t.last,
      ap length t.trimmed.whole,
      length-append t.last t.trimmed.pad,
      ap length t.whole,
      length-append (joined_lines t.ended_lines) t.rest,
    )

message_fits : (bytes : List ℕ) (m : QwkMessage) → IsBytes bytes → length bytes ≤ 1048576 → MessageReads bytes m → Writable m
message_fits bytes m is small x = record {
  header = header_fits x.block m.header x.count (bytes_front x.block x.text (subst IsBytes x.whole is)) x.header;
  lines = subst (All IsLine) (sym x.lines.all) (All-append IsLine x.lines.ended_lines (if_any x.lines.last) x.lines.each (last_line x.lines.rest x.lines.last x.lines.trimmed x.lines.no_end));
  blocks = omega (arith, text_length x.text m.lines x.lines, ap length x.whole, length-append x.block x.text);
}

messages_fit : (bytes : List ℕ) (ms : List QwkMessage) → IsBytes bytes → length bytes ≤ 1048576 → MessagesRead bytes ms → All Writable ms
messages_fit bytes [] is small p = All-nil Writable
messages_fit bytes (m ∷ ms) is small p =
    let is' : IsBytes (p.0 ++ p.1) = subst IsBytes p.2 is in
    let len : length bytes ≡ length p.0 + length p.1 = ap length p.2 ∙ length-append p.0 p.1 in
    All-cons Writable m ms (message_fits p.0 m (bytes_front p.0 p.1 is') (omega arith) p.3) (messages_fit p.1 ms (bytes_rest p.0 p.1 is') (omega arith) p.4)

pub reads_writable : (bytes : List ℕ) (r : Result (List QwkMessage) QwkError) → IsBytes bytes → ReadsOrFaults bytes r → length bytes ≤ 1048576 → IfOk r (All Writable)
reads_writable bytes (Ok ms) is h small = messages_fit h.rest ms (bytes_rest h.notice h.rest (subst IsBytes h.whole is)) (omega (arith, ap length h.whole, length-append h.notice h.rest)) h.each
reads_writable bytes (Err e) is h small = tt
