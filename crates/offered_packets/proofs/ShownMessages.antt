-- What is shown of a valid board can be written.
use Rattle.std.proofs.Common.{◌≡◌, ℕ, zero, suc, ◌-◌, ◌^◌, ◌<◌, ◌≤◌, Bool, true, false, ◌&&◌, cond, eqb, leb, List, [], length, get_or, take, refl, sym, ap, ◌∙◌, subst, inl, inr, arith}
use Rattle.std.specs.Prelude.{Some, slice_get, IsTrue}
use Rattle.std.specs.List.{All, list_all}
use Rattle.std.proofs.lemmas.Bool.{and_parts, leb-true, cases_lt, cases_eq, cond-true, cond-false, eq-eqb, ne_eqb}
use Rattle.std.proofs.lemmas.List.{length-map, length-replicate, length-take, get_or-map, get_or_past}
use Rattle.std.proofs.lemmas.List.Elements.{All-take}
use Rattle.std.proofs.lemmas.List.Sums.{AllPass-from_list_all}
use Rattle.std.proofs.lemmas.Option.{none-some, same_Some, slice_get-get_or, slice_get_past}
use Rattle.board_layout.specs.Board.{Board, shapes_of}
use Rattle.board_layout.specs.Outlines.{board_outline}
use Rattle.board_layout.specs.Valid.{IsBoard}
use Rattle.board_layout.proofs.OutlineLaws.{outline_valid}
use Rattle.board_layout.specs.jam_base.Slots.{numbered}
use Rattle.board_layout.specs.jam_layout.Fields.{is_text}
use Rattle.board_layout.specs.jam_layout.Limits.{slot_limit}
use Rattle.board_layout.specs.jam_layout.Messages.{EmptyOr, IsMessage, IsSlot}
use Rattle.board_layout.specs.jam_layout.Outlines.{message_outline}
use Rattle.board_layout.specs.jam_layout.Valid.{IsConference}
use Rattle.board_layout.specs.jam_layout.declared.conference.ConferenceContents.{ConferenceContents}
use Rattle.board_layout.specs.jam_layout.declared.shape.Shape.{Shape}
use Rattle.jam_records.specs.declared.message.Kind.{Kind}
use Rattle.jam_records.specs.declared.message.Kind.TheVariants.{Local}
use Rattle.jam_records.specs.declared.message.Message.{Message}
use Rattle.jam_records.specs.declared.message.Slot.{Slot}
use Rattle.jam_records.specs.declared.message.Slot.TheVariants.{Gone, Held}
use Rattle.jam_threads.specs.Children.{original, slot_original}
use Rattle.jam_threads.proofs.ChildrenLemmas.{slot_original-le}
use Rattle.qwk_blocks.specs.Header.{IsPad}
use Rattle.qwk_blocks.specs.Text.{joined_lines}
use Rattle.qwk_blocks.specs.Written.{TextFits, Writable}
use Rattle.qwk_blocks.specs.declared.message.Header.{Header}
use Rattle.qwk_blocks.specs.declared.message.QwkMessage.{QwkMessage}
use Rattle.long_names.specs.Fits.{FitsOrLong, HeaderFitsWithLong, FitsWithLong}
use Rattle.long_names.specs.Plain.{with_long, in_capitals}
use Rattle.long_names.specs.Value.{short_form, is_long, most_of}
use Rattle.long_names.specs.declared.line_field.LineField.{LineField}
use Rattle.long_names.specs.declared.line_field.LineField.TheVariants.{To, From, Subject}
use Rattle.long_names.proofs.Shortening.{ends_from, bare_len, bare_end}
use Rattle.long_names.proofs.WithLong.{long_fits, long_text_size, capitals_writable}
use Rattle.board_ledger.specs.setup_file.Valid.{IsSetupConference, numbers_of}
use Rattle.board_ledger.specs.setup_file.declared.conference.Conference.{Conference as SetupConference}
use Rattle.text_fields.proofs.Trimming.{nothing_ends}
use Rattle.board_layout.specs.Lookups.{held_in, slots_in, message_at}
use Rattle.offered_packets.specs.Shown.{shown_text, shown_lines, whole_message, shown_message, IsShort}
use Rattle.offered_packets.proofs.FieldLaws.{are_lines, lines_length}
use Rattle.board_layout.proofs.BoardLookups.{slots_of, conference_fits}
use Rattle.offered_packets.proofs.OutlineLaws.{outline_shown}
use Rattle.offered_packets.proofs.PlainTexts.{IsPlain}

-- where there is no slot no message answers another
pub none_answers : (number : ℕ) → original [] number ≡ 0
unfolding original
none_answers zero = refl
none_answers (suc place) = ap (slot_original (take place [])) (slice_get_past [] place (omega arith))

-- ---- texts
plain_text : (most : ℕ) (text : List ℕ) → IsTrue (is_text most text) → IsPlain text
unfolding is_text
plain_text most text e =
    let each : list_all (λ b. leb 0x20 b) text ≡ true = (and_parts (leb 1 (length text) && leb (length text) most) (list_all (λ b. leb 0x20 b) text) e).1 in
    λ k d within. leb-true 0x20 _ (AllPass-from_list_all (λ b. leb 0x20 b) text each k d within)

plain_or_empty : (most : ℕ) (text : List ℕ) → EmptyOr (is_text most) text → IsPlain text
plain_or_empty most text (inl none) = λ k d within. absurd (omega arith)
plain_or_empty most text (inr e) = plain_text most text e

-- the short form of a text has no byte below 20h either, and no space at its end
short_plain : (text : List ℕ) → IsPlain text → IsPlain (short_form text)
short_plain text plain = All-take (λ b. 0x20 ≤ b) (bare_len (take 25 text)) (take 25 text) (All-take (λ b. 0x20 ≤ b) 25 text plain)

short_fits : (text : List ℕ) → IsPlain text → TextFits 25 (short_form text)
short_fits text plain = record {
  short = omega (arith, length-take 25 text, length-take (bare_len (take 25 text)) (take 25 text));
  trimmed = ends_from IsPad (short_form text) (λ some pad. elim pad [
    | inl space ↦ bare_end (take 25 text) some space
    | inr nul ↦ let low : 0x20 ≤ get_or (short_form text) (length (short_form text) - 1) 0 = short_plain text plain (length (short_form text) - 1) 0 (omega arith) in omega (arith, low, nul)
  ]);
}

-- what is shown goes as a line, or has room in its field
shown_at_field : (field : LineField) (text : List ℕ) (long : Bool) → is_long (most_of field) text ≡ long → IsPlain text → FitsOrLong field (cond long text (short_form text))
shown_at_field field text true is plain = inl is
shown_at_field field text false is plain = inr (short_fits text plain)

pub text_fits : (field : LineField) (text : List ℕ) → IsPlain text → FitsOrLong field (shown_text field text)
text_fits field text plain = shown_at_field field text (is_long (most_of field) text) refl plain

-- ---- messages of a board
-- a number whose slot holds a message is that of a slot
-- the place of a number whose slot holds a message
record StandsAt (slots : List Slot) (number : ℕ) (m : Message) : Type 0 where
  within : number - 1 < length slots
  some : 0 < number
  is : get_or slots (number - 1) Gone ≡ Held m

held_slot : (slot : Slot) (m : Message) → held_in slot ≡ Some m → slot ≡ Held m
held_slot Gone m e = absurd (none-some m e)
held_slot (Held n) m e = ap Held (same_Some n m e)

gone_not : (m : Message) → Gone ≡ Held m → ⊥
gone_not m e = cc

stands_at : (slots : List Slot) (number : ℕ) (m : Message) → held_in (numbered slots number) ≡ Some m → StandsAt slots number m
stands_at slots number m e =
    let held : numbered slots number ≡ Held m = held_slot (numbered slots number) m e in
    elim (cases_eq number 0) [
      | inl none ↦ absurd (gone_not m (sym (cond-true (eqb number 0) Gone (get_or slots (number - 1) Gone) (eq-eqb number 0 none)) ∙ held))
      | inr some ↦
          let is : get_or slots (number - 1) Gone ≡ Held m = sym (cond-false (eqb number 0) Gone (get_or slots (number - 1) Gone) (ne_eqb number 0 some)) ∙ held in
          elim (cases_lt (number - 1) (length slots)) [
            | inl within ↦ record { within = within; some = omega arith; is = is }
            | inr past ↦ absurd (gone_not m (sym (get_or_past slots (number - 1) Gone past) ∙ is))
          ]
    ]

-- any conference and any shape
no_conference : ConferenceContents
no_conference = record { counter = 0; slots = []; pointers = [] }

no_shape : Shape
no_shape = record { place = 0; created = 0; kind = Local; readers = [] }

-- a message of a valid board, its number, and the slots of its conference
pub record IsThere (b : Board) (place number : ℕ) (m : Message) : Type 0 where
  pub kind : Kind
  pub message : IsMessage kind m
  pub within : number ≤ length (slots_in b place)
  pub few : length (slots_in b place) ≤ slot_limit

pub is_there : (b : Board) (place number : ℕ) (m : Message) → IsBoard b → message_at b place number ≡ Some m → IsThere b place number m
is_there b place number m ok e =
    let stands : StandsAt (slots_in b place) number m = stands_at (slots_in b place) number m e in
    elim (cases_lt place (length b.conferences)) [
      | inl inside ↦
          let c : ConferenceContents = get_or b.conferences place no_conference in
          let shape : Shape = get_or (shapes_of b.ledger) place no_shape in
          let slots : slots_in b place ≡ c.slots = ap slots_of (slice_get-get_or b.conferences place no_conference inside) in
          let known : IsConference shape c = conference_fits (shapes_of b.ledger) b.conferences place no_shape no_conference ok.conferences inside in
          let slot : IsSlot shape.kind (get_or c.slots (number - 1) Gone) = known.slots (number - 1) Gone (omega (arith, stands.within, ap length slots)) in
          let held : get_or c.slots (number - 1) Gone ≡ Held m = ap (λ (xs : List Slot). get_or xs (number - 1) Gone) (sym slots) ∙ stands.is in
          record {
            kind = shape.kind;
            message = subst (IsSlot shape.kind) held slot;
            within = omega (arith, stands.within);
            few = omega (arith, ap length slots, known.few);
          }
      | inr past ↦
          let none : slots_in b place ≡ [] = ap slots_of (slice_get_past b.conferences place past) in
          absurd (omega (arith, stands.within, ap length none))
    ]

original_small : (slots : List Slot) (number : ℕ) → number ≤ length slots → original slots number ≤ length slots
unfolding original
original_small slots zero within = omega arith
original_small slots (suc place) within = omega (arith, slot_original-le (take place slots) (slice_get slots place), length-take place slots)

no_setup : SetupConference
no_setup = record { number = 0; kind = Local; readonly = false; private = false; name = [] }

number_small : (conferences : List SetupConference) (place : ℕ) → All IsSetupConference conferences → get_or (numbers_of conferences) place 0 < 2 ^ 16
number_small conferences place each = elim (cases_lt place (length conferences)) [
  | inl within ↦
      let is : get_or (numbers_of conferences) place 0 ≡ (get_or conferences place no_setup).number = get_or-map (λ (c : SetupConference). c.number) conferences place no_setup 0 within in
      let small : (get_or conferences place no_setup).number < 2 ^ 16 = (each place no_setup within).number in
      omega arith
  | inr past ↦ let none : get_or (numbers_of conferences) place 0 ≡ 0 = get_or_past (numbers_of conferences) place 0 (omega (arith, length-map conferences (λ (c : SetupConference). c.number))) in omega arith
]

header_fits : (b : Board) (place number logical : ℕ) (m : Message) → IsBoard b → logical < 2 ^ 16 → IsThere b place number m → HeaderFitsWithLong (whole_message b place number logical m).header
header_fits b place number logical m ok small there =
    let few : number ≤ slot_limit = omega (arith, there.within, there.few) in
    let answered : original (slots_in b place) number ≤ 99999999 = omega (arith, there.few, original_small (slots_in b place) number there.within) in
    let shown_number : number ≤ 9999999 = omega arith in
    record {
      number = shown_number;
      date = refl;
      time = refl;
      to = text_fits To m.to (plain_text 36 m.to there.message.to);
      from = text_fits From m.from (plain_text 36 m.from there.message.from);
      subject = text_fits Subject m.subject (plain_or_empty 72 m.subject there.message.subject);
      password = record { short = omega arith; trimmed = nothing_ends IsPad };
      reference = answered;
      conference = number_small b.ledger.setup.conferences place ok.ledger.setup.conferences.each;
      logical = small;
    }

-- ---- a message whose outline is there
outlined_body : (b : Board) (place number : ℕ) (m : Message) → IsThere b place number (message_outline m) → length m.body ≤ 16384
outlined_body b place number m there = let small = there.message.body in omega (arith, length-replicate {A = ℕ} (length m.body) 0x0D, small)

-- with its names and subject whole it can be written once the long ones go as lines
whole_fits : (b : Board) (place number logical : ℕ) (m : Message) → IsBoard b → logical < 2 ^ 16 → IsThere b place number (message_outline m) → FitsWithLong (whole_message b place number logical m)
whole_fits b place number logical m ok small there = record {
  header = header_fits b place number logical (message_outline m) ok small there;
  lines = are_lines m.body;
  blocks = omega (arith, lines_length m.body, outlined_body b place number m there);
}

message_fits : (b : Board) (place number logical : ℕ) (m : Message) → IsBoard b → logical < 2 ^ 16 → IsThere b place number (message_outline m) → Writable (shown_message b place number logical m)
message_fits b place number logical m ok small there =
    let whole : QwkMessage = whole_message b place number logical m in
    capitals_writable (with_long whole) (long_fits whole (whole_fits b place number logical m ok small there))

-- its text has at most 167 bytes more than its body
message_size : (b : Board) (place number logical : ℕ) (m : Message) → IsThere b place number (message_outline m) → length (joined_lines (shown_message b place number logical m).lines) ≤ 16551
message_size b place number logical m there = omega (arith, long_text_size (whole_message b place number logical m), lines_length m.body, outlined_body b place number m there)

-- it is shown so that it can be written, in at most the bytes of a body and of lines that give long values
pub is_short : (b : Board) (place number logical : ℕ) (m : Message) → IsBoard b → logical < 2 ^ 16 → message_at (board_outline b) place number ≡ Some (message_outline m) → IsShort (shown_message b place number logical m)
is_short b place number logical m ok small here =
    let valid : IsBoard (board_outline b) = outline_valid b ok in
    let there : IsThere (board_outline b) place number (message_outline m) = is_there (board_outline b) place number (message_outline m) valid here in
    subst IsShort (outline_shown b place number logical m) (record {
      writable = message_fits (board_outline b) place number logical m valid small there;
      short = message_size (board_outline b) place number logical m there;
    })

-- what was made of its parts
pub made_short : (b : Board) (place number logical : ℕ) (m : Message) (header : Header) (lines : List (List ℕ)) (made : QwkMessage) → IsBoard b → logical < 2 ^ 16 → message_at (board_outline b) place number ≡ Some (message_outline m)
    → header ≡ (whole_message b place number logical m).header → lines ≡ shown_lines m.body → made ≡ in_capitals (with_long (record { header = header; lines = lines })) → IsShort made
made_short b place number logical m header lines made ok small here header_is lines_is made_is =
    subst IsShort (sym (made_is ∙ (λ i. in_capitals (with_long (record { header = header_is i; lines = lines_is i }))))) (is_short b place number logical m ok small here)
