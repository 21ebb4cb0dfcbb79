-- What can be written once its long values go as lines can be written then.
use Rattle.std.proofs.Common.{◌≡◌, ◌≢◌, ℕ, ◌+◌, ◌-◌, ◌<◌, ◌≤◌, Bool, true, false, not, cond, eqb, List, [], ◌∷◌, ◌++◌, length, get_or, take, refl, sym, ap, ◌∙◌, inl, inr, arith, length-append}
use Rattle.std.specs.Char.{to_ascii_uppercase}
use Rattle.std.specs.List.{All, list_all}
use Rattle.std.specs.Str.{str_to_ascii_uppercase}
use Rattle.std.proofs.lemmas.Bool.{eq-eqb}
use Rattle.std.proofs.lemmas.List.Sums.{AllPass-from_list_all}
use Rattle.std.proofs.lemmas.Bool.Decides.{nat_tests}
use Rattle.std.proofs.lemmas.List.{length-map, length-take, get_or-map, take_all, take_more}
use Rattle.std.proofs.lemmas.List.Concat.{flat_map-append}
use Rattle.std.proofs.lemmas.List.Elements.{All-nil, All-cons, All-append, All-take}
use Rattle.qwk_blocks.specs.Header.{IsPad}
use Rattle.qwk_blocks.specs.Text.{joined_lines, IsLine}
use Rattle.qwk_blocks.specs.Written.{TextFits, HeaderFits, Writable}
use Rattle.qwk_blocks.specs.declared.message.Header.{Header}
use Rattle.qwk_blocks.specs.declared.message.QwkMessage.{QwkMessage}
use Rattle.long_names.specs.Value.{short_form, is_long, name_of, most_of}
use Rattle.long_names.specs.Plain.{in_field, as_line, long_lines, is_parted, short_header, with_long, in_capitals}
use Rattle.long_names.specs.Fits.{FitsOrLong, HeaderFitsWithLong, FitsWithLong}
use Rattle.long_names.specs.declared.line_field.LineField.{LineField}
use Rattle.long_names.specs.declared.line_field.LineField.TheVariants.{To, From, Subject}
use Rattle.long_names.proofs.LongValues.{IsLong, long_is}
use Rattle.long_names.proofs.Shortening.{bare_len, bare_end, ends_from}

-- ---- fields
-- the short form of a long value has room in its field
short_fits : (most : ℕ) (value : List ℕ) → is_long most value ≡ true → TextFits 25 (short_form value)
short_fits most value e =
    let l : IsLong most value = long_is most value e in
    let plain : All (λ b. 0x20 ≤ b) (short_form value) = All-take (λ b. 0x20 ≤ b) (bare_len (take 25 value)) (take 25 value) (All-take (λ b. 0x20 ≤ b) 25 value l.plain) in
    record {
      short = omega (arith, length-take 25 value, length-take (bare_len (take 25 value)) (take 25 value));
      trimmed = ends_from IsPad (short_form value) (λ some pad. elim pad [
        | inl space ↦ bare_end (take 25 value) some space
        | inr nul ↦ let low : 0x20 ≤ get_or (short_form value) (length (short_form value) - 1) 0 = plain (length (short_form value) - 1) 0 (omega arith) in omega (arith, low, nul)
      ]);
    }

field_at : (field : LineField) (value : List ℕ) (long : Bool) → is_long (most_of field) value ≡ long → FitsOrLong field value → TextFits 25 (cond long (short_form value) value)
field_at field value true is fits = short_fits (most_of field) value is
field_at field value false is (inl long) = absurd (let e : false ≡ true = sym is ∙ long in cc)
field_at field value false is (inr fits) = fits

pub field_fits : (field : LineField) (value : List ℕ) → FitsOrLong field value → TextFits 25 (in_field field value)
field_fits field value fits = field_at field value (is_long (most_of field) value) refl fits

-- a text in capitals has room where it has
upper_space : (b : ℕ) → to_ascii_uppercase b ≡ 32 → b ≡ 32
upper_space b e = grind (arith, nat_tests)

upper_nul : (b : ℕ) → to_ascii_uppercase b ≡ 0 → b ≡ 0
upper_nul b e = grind (arith, nat_tests)

last_is : (text : List ℕ) → 0 < length text → text ≡ take (length text - 1) text ++ get_or text (length text - 1) 0 ∷ []
last_is text some =
    let e : length text - 1 + 1 ≡ length text = omega arith in
    sym (take_all (length text) text (omega arith)) ∙ (ap (λ n. take n text) (sym e) ∙ take_more text (length text - 1) 0 (omega arith))

pub capitals_fit : (width : ℕ) (text : List ℕ) → TextFits width text → TextFits width (str_to_ascii_uppercase text)
capitals_fit width text fits =
    let count : length (str_to_ascii_uppercase text) ≡ length text = length-map text to_ascii_uppercase in
    record {
      short = omega (arith, count, fits.short);
      trimmed = ends_from IsPad (str_to_ascii_uppercase text) (λ some pad.
          let there : 0 < length text = omega (arith, count, some) in
          let last : ℕ = get_or text (length text - 1) 0 in
          let turn : get_or (str_to_ascii_uppercase text) (length (str_to_ascii_uppercase text) - 1) 0 ≡ to_ascii_uppercase last
          = ap (λ n. get_or (str_to_ascii_uppercase text) (n - 1) 0) count ∙ get_or-map to_ascii_uppercase text (length text - 1) 0 0 (omega (arith, there)) in
          let ends : IsPad last → ⊥ = fits.trimmed (take (length text - 1) text) last (last_is text there) in
          elim pad [
            | inl space ↦ ends (inl (upper_space last (sym turn ∙ space)))
            | inr nul ↦ ends (inr (upper_nul last (sym turn ∙ nul)))
          ]);
    }

-- ---- lines
lacks_end : (text : List ℕ) → list_all (λ b. not (eqb b 0xE3)) text ≡ true → IsLine text
lacks_end text each = λ k d lt is. different (eqb (get_or text k d) 0xE3) (AllPass-from_list_all (λ b. not (eqb b 0xE3)) text each k d lt) (eq-eqb (get_or text k d) 0xE3 is)
  where
    different : (test : Bool) → not test ≡ true → test ≡ true → ⊥
    different true e x = cc
    different false e x = cc

name_line : (field : LineField) → IsLine (name_of field)
name_line To = lacks_end (name_of To) refl
name_line From = lacks_end (name_of From) refl
name_line Subject = lacks_end (name_of Subject) refl

abbrev IsNoEnd : ℕ → Type 0
IsNoEnd b = b ≢ 0xE3

one_line : (field : LineField) (value : List ℕ) (long : Bool) → is_long (most_of field) value ≡ long → All IsLine (cond long ((name_of field ++ value) ∷ []) [])
one_line field value true is = All-cons IsLine (name_of field ++ value) [] (All-append IsNoEnd (name_of field) value (name_line field) (long_is (most_of field) value is).line) (All-nil IsLine)
one_line field value false is = All-nil IsLine

are_lines : (field : LineField) (value : List ℕ) → All IsLine (as_line field value)
are_lines field value = one_line field value (is_long (most_of field) value) refl

-- the bytes of a field's line, with its end
abbrev line_most : LineField → ℕ
line_most field = length (name_of field) + most_of field + 1

one_size : (field : LineField) (value : List ℕ) (long : Bool) → is_long (most_of field) value ≡ long → length (joined_lines (cond long ((name_of field ++ value) ∷ []) [])) ≤ line_most field
one_size field value true is =
    let line : List ℕ = name_of field ++ value in
    omega (arith, length-append (line ++ 0xE3 ∷ []) [], length-append line (0xE3 ∷ []), length-append (name_of field) value, (long_is (most_of field) value is).most_bytes)
one_size field value false is = omega arith

line_size : (field : LineField) (value : List ℕ) → length (joined_lines (as_line field value)) ≤ line_most field
line_size field value = one_size field value (is_long (most_of field) value) refl

ended_both : (xs ys : List (List ℕ)) → length (joined_lines (xs ++ ys)) ≡ length (joined_lines xs) + length (joined_lines ys)
ended_both xs ys = ap length (flat_map-append (λ line. line ++ 0xE3 ∷ []) xs ys) ∙ length-append (joined_lines xs) (joined_lines ys)

all_long : (h : Header) → All IsLine (long_lines h)
all_long h =
    All-append IsLine (as_line To h.to) (as_line From h.from ++ as_line Subject h.subject) (are_lines To h.to)
    (All-append IsLine (as_line From h.from) (as_line Subject h.subject) (are_lines From h.from) (are_lines Subject h.subject))

long_size : (h : Header) → length (joined_lines (long_lines h)) ≤ 166
long_size h = omega (
  arith,
  ended_both (as_line To h.to) (as_line From h.from ++ as_line Subject h.subject),
  ended_both (as_line From h.from) (as_line Subject h.subject),
  line_size To h.to,
  line_size From h.from,
  line_size Subject h.subject,
)

parted_lines : (lines : List (List ℕ)) (parted : Bool) → All IsLine lines → All IsLine (cond parted ([] ∷ lines) lines)
parted_lines lines true all = All-cons IsLine [] lines (All-nil IsNoEnd) all
parted_lines lines false all = all

parted_size : (lines : List (List ℕ)) (parted : Bool) → length (joined_lines (cond parted ([] ∷ lines) lines)) ≤ 1 + length (joined_lines lines)
parted_size lines true = omega (arith, length-append ([] ++ 0xE3 ∷ []) (joined_lines lines))
parted_size lines false = omega arith

-- ---- the message
abbrev text_lines : QwkMessage → List (List ℕ)
text_lines m = cond (is_parted m) ([] ∷ m.lines) m.lines

short_header_fits : (h : Header) → HeaderFitsWithLong h → HeaderFits (short_header h)
short_header_fits h fits = record {
  number = fits.number;
  date = fits.date;
  time = fits.time;
  texts = record {
    to = field_fits To h.to fits.to;
    from = field_fits From h.from fits.from;
    subject = field_fits Subject h.subject fits.subject;
    password = fits.password;
  };
  reference = fits.reference;
  conference = fits.conference;
  logical = fits.logical;
}

pub long_fits : (m : QwkMessage) → FitsWithLong m → Writable (with_long m)
unfolding with_long
long_fits m fits = record {
  header = short_header_fits m.header fits.header;
  lines = All-append IsLine (long_lines m.header) (text_lines m) (all_long m.header) (parted_lines m.lines (is_parted m) fits.lines);
  blocks = omega (arith, ended_both (long_lines m.header) (text_lines m), long_size m.header, parted_size m.lines (is_parted m), fits.blocks);
}

-- its text has at most 167 bytes more
pub long_text_size : (m : QwkMessage) → length (joined_lines (with_long m).lines) ≤ 167 + length (joined_lines m.lines)
unfolding with_long
long_text_size m = omega (arith, ended_both (long_lines m.header) (text_lines m), long_size m.header, parted_size m.lines (is_parted m))

pub capitals_writable : (m : QwkMessage) → Writable m → Writable (in_capitals m)
capitals_writable m w = record {
  header = record {
    number = w.header.number;
    date = w.header.date;
    time = w.header.time;
    texts = record {
      to = capitals_fit 25 m.header.to w.header.texts.to;
      from = capitals_fit 25 m.header.from w.header.texts.from;
      subject = w.header.texts.subject;
      password = w.header.texts.password;
    };
    reference = w.header.reference;
    conference = w.header.conference;
    logical = w.header.logical;
  };
  lines = w.lines;
  blocks = w.blocks;
}
