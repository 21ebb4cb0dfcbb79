-- What is written reads back.
use Rattle.std.proofs.Common.{◌≡◌, ◌≢◌, ℕ, ◌+◌, ◌-◌, ◌*◌, ◌/◌, ◌%◌, ◌^◌, ◌<◌, ◌≤◌, List, [], ◌∷◌, ◌++◌, Option, Some, None, length, get_or, take, drop, replicate, refl, sym, ap, ◌∙◌, inl, arith, length-append}
use Rattle.std.proofs.lemmas.Fmt.{length-decimal-le}
use Rattle.std.proofs.lemmas.List.{take_at, drop_at, drop-drop, length-replicate, length-drop, get_or-drop, append-nil, append_assoc}
use Rattle.std.proofs.lemmas.List.Elements.{All-head, All-tail, All-replicate, All-nil}
use Rattle.std.specs.Fmt.{decimal}
use Rattle.std.specs.List.{All, flat_map}
use Rattle.std.specs.Option.{IfSome}
use Rattle.text_fields.specs.Number.{Number}
use Rattle.text_fields.specs.Trim.{TrimmedEnd}
use Rattle.text_fields.specs.declared.blank.Blank.TheVariants.{SpacesAndNuls}
use Rattle.text_fields.proofs.Numbers.{decimal_digits, digits_begin, digits_end, no_number}
use Rattle.text_fields.proofs.Trimming.{nothing_begins, nothing_ends}
use Rattle.qwk_blocks.specs.Header.{IsPad, HasNumber, HeaderReads}
use Rattle.qwk_blocks.specs.Packet.{MessageReads, MessagesRead, PacketReads}
use Rattle.qwk_blocks.specs.Text.{joined_lines, IsLine, TextReads}
use Rattle.qwk_blocks.specs.Written.{padded, number_text, low_first, header_block, message_text, blocks_of, spelling, TextFits, HeaderFits, Writable}
use Rattle.qwk_blocks.specs.declared.message.Header.{Header}
use Rattle.qwk_blocks.specs.declared.message.QwkMessage.{QwkMessage}
use Rattle.qwk_blocks.proofs.Messages.{packet_unique}

pub length_padded : (width : ℕ) (text : List ℕ) → length text ≤ width → length (padded width text) ≡ width
length_padded width text le = omega (arith, length-append text (replicate (width - length text) 32), length-replicate {A = ℕ} (width - length text) 32)

blank_spaces : (n : ℕ) → All IsPad (replicate n 32)
blank_spaces n = All-replicate IsPad n 32 (inl refl)

text_back : (width : ℕ) (text : List ℕ) → TextFits width text → TrimmedEnd IsPad (padded width text) text
text_back width text fits = record { pad = replicate (width - length text) 32; whole = refl; blank = blank_spaces _; ends = fits.trimmed }

-- digits of a number that fit the width
number_back : (width n : ℕ) → length (decimal n) ≤ width → n < 2 ^ 64 → Number IsPad width (padded width (decimal n)) n
number_back width n short small =
    let d = decimal_digits n small in
    record {
      text = decimal n;
      trimmed = record {
        before = [];
        after = replicate (width - length (decimal n)) 32;
        whole = refl;
        blank_before = All-nil IsPad;
        blank_after = blank_spaces _;
        begins = digits_begin SpacesAndNuls (decimal n) n d;
        ends = digits_end SpacesAndNuls (decimal n) n d;
      };
      short = short;
      digits = d;
    }

-- the number of a field of its own
abbrev NumberOf : ℕ → List ℕ → Option ℕ → Type 0
NumberOf width field None = (n : ℕ) → Number IsPad width field n → ⊥
NumberOf width field (Some n) = Number IsPad width field n

optional_back : (width : ℕ) (n : Option ℕ) → length (number_text n) ≤ width → IfSome n (λ k. k < 2 ^ 64) → NumberOf width (padded width (number_text n)) n
optional_back width None short small = no_number IsPad width (padded width []) [] record {
  before = [];
  after = replicate (width - 0) 32;
  whole = refl;
  blank_before = All-nil IsPad;
  blank_after = blank_spaces _;
  begins = nothing_begins IsPad;
  ends = nothing_ends IsPad;
} (λ n le x. omega (arith, x.numeral.0))
optional_back width (Some n) short small = number_back width n short small

has_number : (place width : ℕ) (block : List ℕ) (n : Option ℕ) → NumberOf width (take width (drop (place - 1) block)) n → HasNumber place width block n
has_number place width block None x = x
has_number place width block (Some n) x = x

length_number : (width : ℕ) (n : Option ℕ) → 0 < width → IfSome n (λ k. (k < 10 ^ width) × (k < 2 ^ 64)) → length (number_text n) ≤ width
length_number width None some small = omega arith
length_number width (Some n) some small = length-decimal-le width n some small.0 small.1

-- the part at an offset, and what follows it
here : (w : ℕ) (p rest xs : List ℕ) → xs ≡ p ++ rest → length p ≡ w → take w xs ≡ p
here w p rest xs e l = ap (take w) e ∙ take_at p rest w l

next : (off w : ℕ) (block p rest : List ℕ) → drop off block ≡ p ++ rest → length p ≡ w → drop (off + w) block ≡ rest
next off w block p rest e l = sym (drop-drop w off block) ∙ (ap (drop w) e ∙ drop_at p rest w l)

word_at : (off n : ℕ) (block rest : List ℕ) → drop off block ≡ low_first n ++ rest → get_or block off 0 + 256 * get_or block (off + 1) 0 ≡ n
word_at off n block rest e =
    let z : off + 0 ≡ off = omega arith in
    let low : get_or block off 0 ≡ n % 256 = ap (λ k. get_or block k 0) (sym z) ∙ (sym (get_or-drop off block 0 0) ∙ ap (λ xs. get_or xs 0 0) e) in
    let high : get_or block (off + 1) 0 ≡ n / 256 = sym (get_or-drop off block 1 0) ∙ ap (λ xs. get_or xs 1 0) e in
    omega arith

small_option : (k : ℕ) (n : Option ℕ) → k < 2 ^ 64 → IfSome n (λ m. m ≤ k) → IfSome n (λ m. m < 2 ^ 64)
small_option k None lt h = tt
small_option k (Some n) lt h = omega arith

digits_option : (k w : ℕ) (n : Option ℕ) → k < 2 ^ 64 → k < 10 ^ w → IfSome n (λ m. m ≤ k) → IfSome n (λ m. (m < 10 ^ w) × (m < 2 ^ 64))
digits_option k w None lt lt' h = tt
digits_option k w (Some n) lt lt' h = (omega arith, omega arith)

pub header_back : (h : Header) (count : ℕ) → HeaderFits h → 1 ≤ count → count ≤ 999999 → HeaderReads (header_block h count) h count
unfolding header_block
header_back h count fits some small =
    let block : List ℕ = header_block h count in
    let l7 = length_number 7 h.number (omega arith) (digits_option 9999999 7 h.number (omega arith) (omega arith) fits.number) in
    let l8 = length_number 8 h.reference (omega arith) (digits_option 99999999 8 h.reference (omega arith) (omega arith) fits.reference) in
    let l6 = length-decimal-le 6 count (omega arith) (omega arith) (omega arith) in
    let p7 = length_padded 7 (number_text h.number) l7 in
    let pto = length_padded 25 h.to fits.texts.to.short in
    let pfrom = length_padded 25 h.from fits.texts.from.short in
    let psub = length_padded 25 h.subject fits.texts.subject.short in
    let ppw = length_padded 12 h.password fits.texts.password.short in
    let p8 = length_padded 8 (number_text h.reference) l8 in
    let p6 = length_padded 6 (decimal count) l6 in
    let e1 = next 0 1 block (h.status ∷ []) _ refl refl in
    let e2 = next 1 7 block (padded 7 (number_text h.number)) _ e1 p7 in
    let e3 = next 8 8 block h.date _ e2 fits.date in
    let e4 = next 16 5 block h.time _ e3 fits.time in
    let e5 = next 21 25 block (padded 25 h.to) _ e4 pto in
    let e6 = next 46 25 block (padded 25 h.from) _ e5 pfrom in
    let e7 = next 71 25 block (padded 25 h.subject) _ e6 psub in
    let e8 = next 96 12 block (padded 12 h.password) _ e7 ppw in
    let e9 = next 108 8 block (padded 8 (number_text h.reference)) _ e8 p8 in
    let e10 = next 116 6 block (padded 6 (decimal count)) _ e9 p6 in
    let e11 = next 122 1 block (h.activity ∷ []) _ e10 refl in
    let e12 = next 123 2 block (low_first h.conference) _ e11 refl in
    let e13 = next 125 2 block (low_first h.logical) _ e12 refl in
    record {
      size = omega (arith, length-drop 127 block, ap length e13);
      status = refl;
      number = has_number 2 7 block h.number (rw (here 7 _ _ _ e1 p7) (optional_back 7 h.number l7 (small_option 9999999 h.number (omega arith) fits.number)));
      date = sym (here 8 _ _ _ e2 fits.date);
      time = sym (here 5 _ _ _ e3 fits.time);
      to = rw (here 25 _ _ _ e4 pto) (text_back 25 h.to fits.texts.to);
      from = rw (here 25 _ _ _ e5 pfrom) (text_back 25 h.from fits.texts.from);
      subject = rw (here 25 _ _ _ e6 psub) (text_back 25 h.subject fits.texts.subject);
      password = rw (here 12 _ _ _ e7 ppw) (text_back 12 h.password fits.texts.password);
      reference = has_number 109 8 block h.reference (rw (here 8 _ _ _ e8 p8) (optional_back 8 h.reference l8 (small_option 99999999 h.reference (omega arith) fits.reference)));
      blocks = record { number = rw (here 6 _ _ _ e9 p6) (number_back 6 count l6 (omega arith)); positive = some };
      activity = sym (sym (get_or-drop 122 block 0 0) ∙ ap (λ xs. get_or xs 0 0) e10);
      conference = sym (word_at 123 h.conference block _ e11);
      logical = sym (word_at 125 h.logical block _ e12);
      tag = sym (sym (get_or-drop 127 block 0 0) ∙ ap (λ xs. get_or xs 0 0) e13);
    }

lines_back : (lines : List (List ℕ)) (n : ℕ) → All IsLine lines → TextReads (padded n (joined_lines lines)) lines
lines_back lines n each = record {
  ended_lines = lines;
  rest = replicate (n - length (joined_lines lines)) 32;
  last = [];
  whole = refl;
  each = each;
  no_end = All-replicate (λ b. b ≢ 0xE3) (n - length (joined_lines lines)) 32 (λ e. omega arith);
  trimmed = record { pad = replicate (n - length (joined_lines lines)) 32; whole = refl; blank = blank_spaces _; ends = nothing_ends IsPad };
  all = sym (append-nil lines);
}

pub message_back : (m : QwkMessage) → Writable m → MessageReads (message_text m) m
unfolding message_text
message_back m w =
    let text : List ℕ = joined_lines m.lines in
    let blocks : ℕ = blocks_of (length text) in
    record {
      block = header_block m.header (1 + blocks);
      text = padded (128 * blocks) text;
      count = 1 + blocks;
      whole = refl;
      header = header_back m.header (1 + blocks) w.header (omega arith) w.blocks;
      size = length_padded (128 * blocks) text (omega arith) ∙ omega arith;
      lines = lines_back m.lines (128 * blocks) w.lines;
    }

messages_back : (ms : List QwkMessage) → All Writable ms → MessagesRead (flat_map message_text ms) ms
messages_back [] w = refl
messages_back (m ∷ ms) w = (message_text m, flat_map message_text ms, refl, message_back m (All-head Writable m ms w), messages_back ms (All-tail Writable m ms w))

pub packet_back : (notice : List ℕ) (ms : List QwkMessage) → length notice ≤ 128 → All Writable ms → PacketReads (spelling notice ms) ms
packet_back notice ms le w = record {
  notice = padded 128 notice;
  rest = flat_map message_text ms;
  whole = refl;
  size = length_padded 128 notice le;
  each = messages_back ms w;
}

pub no_others : (notice : List ℕ) (ms others : List QwkMessage) → length notice ≤ 128 → All Writable ms → PacketReads (spelling notice ms) others → others ≡ ms
no_others notice ms others le w p = packet_unique (spelling notice ms) others ms p (packet_back notice ms le w)

-- fourteen parts, one after another
pub regroup : (o a b c d e f g h i j k l m n : List ℕ) → o ++ a ++ b ++ c ++ d ++ e ++ f ++ g ++ h ++ i ++ j ++ k ++ l ++ m ++ n
    ≡ o ++ (a ++ (b ++ (c ++ (d ++ (e ++ (f ++ (g ++ (h ++ (i ++ (j ++ (k ++ (l ++ (m ++ n)))))))))))))
regroup o a b c d e f g h i j k l m n = simp append_assoc
