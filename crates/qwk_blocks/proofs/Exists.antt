-- Every text, and every field but a count, reads as something, so that bytes of the length that their count says are a
-- message.
use Rattle.std.proofs.Common.{◌≡◌, ◌≢◌, ℕ, ◌-◌, ◌*◌, ◌≤◌, List, [], ◌∷◌, ◌++◌, ◌⊎◌, Option, Some, None, length, take, drop, refl, ap, subst, inl, inr, arith}
use Rattle.std.proofs.lemmas.Bool.{cases_eq}
use Rattle.std.proofs.lemmas.List.{take_all, length-take-le}
use Rattle.std.proofs.lemmas.List.Elements.{All-nil, All-cons, All-head, All-tail}
use Rattle.std.specs.List.{All}
use Rattle.text_fields.specs.Lines.{if_any}
use Rattle.text_fields.specs.Trim.{TrimmedEnd}
use Rattle.text_fields.proofs.Fields.{number_or_none, some_trimmed_end}
use Rattle.qwk_blocks.specs.Header.{IsPad, field, byte, number_in, HasNumber, BlockCountReads, HeaderReads}
use Rattle.qwk_blocks.specs.Text.{joined_lines, IsLine, TextReads}
use Rattle.qwk_blocks.specs.Packet.{MessageReads}
use Rattle.qwk_blocks.specs.declared.message.Header.{Header}
use Rattle.qwk_blocks.specs.declared.message.QwkMessage.{QwkMessage}
use Rattle.qwk_blocks.proofs.First.{count_of_front, first_message}

-- a byte is padding, or it isn't
pub pad_or_not : (b : ℕ) → IsPad b ⊎ (IsPad b → ⊥)
pad_or_not b = elim (cases_eq b 32) [
  | inl space ↦ inl (inl space)
  | inr other ↦ elim (cases_eq b 0) [
    | inl nul ↦ inl (inr nul)
    | inr none ↦ inr (λ pad. elim pad [ inl e ↦ other e | inr e ↦ none e ])
  ]
]

some_number : (place width : ℕ) (block : List ℕ) → (r : Option ℕ) × HasNumber place width block r
some_number place width block = elim (number_or_none IsPad pad_or_not width (field place width block)) [
  | inl found ↦ (Some found.0, found.1)
  | inr none ↦ (None, none)
]

byte_more : (x : ℕ) (xs : List ℕ) (ls : List (List ℕ)) (rest : List ℕ) → x ≢ 0xE3 → xs ≡ joined_lines ls ++ rest → All IsLine ls → IsLine rest
    → (more : List (List ℕ)) × (behind : List ℕ) × (x ∷ xs ≡ joined_lines more ++ behind) × All IsLine more × IsLine behind
byte_more x xs [] rest ne e each clear = ([], x ∷ rest, ap (λ ys. x ∷ ys) e, each, All-cons (λ b. b ≢ 0xE3) x rest ne clear)
byte_more x xs (l ∷ ls) rest ne e each clear = (
  (x ∷ l) ∷ ls,
  rest,
  ap (λ ys. x ∷ ys) e,
  All-cons IsLine (x ∷ l) ls (All-cons (λ b. b ≢ 0xE3) x l ne (All-head IsLine l ls each)) (All-tail IsLine l ls each),
  clear,
)

some_lines : (xs : List ℕ) → (ls : List (List ℕ)) × (rest : List ℕ) × (xs ≡ joined_lines ls ++ rest) × All IsLine ls × IsLine rest
some_lines [] = ([], [], refl, All-nil IsLine, All-nil (λ b. b ≢ 0xE3))
some_lines (x ∷ xs) =
    let t : (ls : List (List ℕ)) × (rest : List ℕ) × (xs ≡ joined_lines ls ++ rest) × All IsLine ls × IsLine rest = some_lines xs in
    elim (cases_eq x 0xE3) [
      | inl e ↦ ([] ∷ t.0, t.1, (λ i. e i ∷ t.2 i), All-cons IsLine [] t.0 (All-nil (λ b. b ≢ 0xE3)) t.3, t.4)
      | inr ne ↦ byte_more x xs t.0 t.1 ne t.2 t.3 t.4
    ]

some_text : (bytes : List ℕ) → (lines : List (List ℕ)) × TextReads bytes lines
some_text bytes =
    let s : (ls : List (List ℕ)) × (rest : List ℕ) × (bytes ≡ joined_lines ls ++ rest) × All IsLine ls × IsLine rest = some_lines bytes in
    let t : (last : List ℕ) × TrimmedEnd IsPad s.1 last = some_trimmed_end IsPad pad_or_not s.1 in
    (s.0 ++ if_any t.0, record { ended_lines = s.0; rest = s.1; last = t.0; whole = s.2; each = s.3; no_end = s.4; trimmed = t.1; all = refl })

some_header : (block : List ℕ) (count : ℕ) → length block ≡ 128 → BlockCountReads block count → (h : Header) × HeaderReads block h count
some_header block count len c =
    let number : (r : Option ℕ) × HasNumber 2 7 block r = some_number 2 7 block in
    let reference : (r : Option ℕ) × HasNumber 109 8 block r = some_number 109 8 block in
    let to : (text : List ℕ) × TrimmedEnd IsPad (field 22 25 block) text = some_trimmed_end IsPad pad_or_not (field 22 25 block) in
    let from : (text : List ℕ) × TrimmedEnd IsPad (field 47 25 block) text = some_trimmed_end IsPad pad_or_not (field 47 25 block) in
    let subject : (text : List ℕ) × TrimmedEnd IsPad (field 72 25 block) text = some_trimmed_end IsPad pad_or_not (field 72 25 block) in
    let password : (text : List ℕ) × TrimmedEnd IsPad (field 97 12 block) text = some_trimmed_end IsPad pad_or_not (field 97 12 block) in (
      record {
        status = byte 1 block;
        number = number.0;
        date = field 9 8 block;
        time = field 17 5 block;
        to = to.0;
        from = from.0;
        subject = subject.0;
        password = password.0;
        reference = reference.0;
        activity = byte 123 block;
        conference = number_in 124 block;
        logical = number_in 126 block;
        tag = byte 128 block;
      },
      record {
        size = len;
        status = refl;
        number = number.1;
        date = refl;
        time = refl;
        to = to.1;
        from = from.1;
        subject = subject.1;
        password = password.1;
        reference = reference.1;
        blocks = c;
        activity = refl;
        conference = refl;
        logical = refl;
        tag = refl;
      },
    )

-- bytes of the length that their count says are a message
pub some_message : (bytes : List ℕ) (count : ℕ) → BlockCountReads bytes count → length bytes ≡ 128 * count → (m : QwkMessage) × MessageReads bytes m
some_message bytes count c len =
    let big : 128 ≤ length bytes = omega (arith, c.positive) in
    let block : List ℕ = take 128 bytes in
    let h : (h : Header) × HeaderReads block h count = some_header block count (length-take-le 128 bytes big) (count_of_front 128 bytes count (omega arith) c) in
    let t : (lines : List (List ℕ)) × TextReads (take (128 * count - 128) (drop 128 bytes)) lines = some_text (take (128 * count - 128) (drop 128 bytes)) in
    let m : QwkMessage = record { header = h.0; lines = t.0 } in
    (m, subst (λ (xs : List ℕ). MessageReads xs m) (take_all (128 * count) bytes (omega arith)) (first_message bytes count h.0 t.0 (omega arith) c.positive h.1 t.1))
