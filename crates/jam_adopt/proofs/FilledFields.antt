-- Bytes are filled by the subfields that they read as.
use Rattle.std.proofs.Common.{◌≡◌, ◌↔◌, ℕ, zero, suc, ◌+◌, ◌^◌, ◌<◌, ◌≤◌, List, [], ◌∷◌, ◌++◌, length, take, drop, Some, refl, sym, ap, ◌∙◌, subst, arith, inl, inr, append-nil}
use Rattle.std.specs.Prelude.{All}
use Rattle.std.proofs.lemmas.Bool.{cases_lt}
use Rattle.std.proofs.lemmas.List.{length-drop, length-take, take-append-drop, drop-take}
use Rattle.std.proofs.lemmas.List.Elements.{All-nil, All-cons, All-drop, All-take}
use Rattle.byte_lists.specs.Byte.{IsByte}
use Rattle.record_numbers.specs.Numbers.{u16_at, u32_at}
use Rattle.jam_records.specs.Subfields.{subfield_text, subfields_text, IsSubfield, SubfieldsRead}
use Rattle.jam_records.specs.declared.subfield.Subfield.{Subfield}
use Rattle.jam_records.proofs.SubfieldLemmas.{subfield_of_bytes, taken_length}
use Rattle.jam_adopt.specs.Fields.{first_field, fields_of}
use Rattle.jam_adopt.proofs.FieldLists.{before_others, front_step, front_passes, cut_none, no_fields}
use Rattle.jam_adopt.proofs.OneField.{u16_at-take, u16_small}
use Rattle.jam_adopt.proofs.Stops.{behind_front}

-- the text of the first subfield
first_text : (bytes : List ℕ) → All IsByte bytes → 8 ≤ length bytes → 8 + u32_at 4 bytes ≤ length bytes → take (8 + u32_at 4 bytes) bytes ≡ subfield_text (first_field bytes)
first_text bytes all whole within =
    let end = 8 + u32_at 4 bytes in
    let front : List ℕ = take end bytes in
    let size : length front ≡ 8 + u32_at 4 front = taken_length bytes end (omega arith) within refl in
    subfield_of_bytes front (u16_at 0 bytes) (u16_at 2 bytes) (take (u32_at 4 bytes) (drop 8 bytes)) (All-take IsByte end bytes all) (omega (arith, length-take end bytes)) size
    (sym (u16_at-take 0 end bytes (omega arith))) (sym (u16_at-take 2 end bytes (omega arith))) (sym (drop-take 8 (u32_at 4 bytes) bytes))

-- what the bytes read as where a first subfield and the rest do
reads_on : (bytes : List ℕ) (others : List Subfield) → All IsByte bytes → 8 ≤ length bytes → 8 + u32_at 4 bytes ≤ length bytes → SubfieldsRead (drop (8 + u32_at 4 bytes) bytes) others → SubfieldsRead bytes (first_field bytes ∷ others)
reads_on bytes others all whole within read = record {
  ids = All-cons IsSubfield (first_field bytes) others (u16_small 0 bytes all, u16_small 2 bytes all) read.ids;
  whole =
      sym (take-append-drop (8 + u32_at 4 bytes) bytes)
      ∙ (ap (λ xs. xs ++ drop (8 + u32_at 4 bytes) bytes) (first_text bytes all whole within) ∙ ap (λ xs. subfield_text (first_field bytes) ++ xs) read.whole);
}

reads_by : (n : ℕ) (bytes : List ℕ) (fields : List Subfield) → length bytes ≤ n → All IsByte bytes → fields_of bytes ≡ Some fields → SubfieldsRead bytes fields
reads_by n [] fields few all filled =
    let same : [] ≡ fields = let e = sym no_fields ∙ filled in cc in
    subst (SubfieldsRead []) same (record { ids = All-nil IsSubfield; whole = refl })
reads_by zero (b ∷ bytes) fields few all filled = absurd (omega arith)
reads_by (suc n) (b ∷ bytes) fields few all filled = elim (cases_lt (length (b ∷ bytes)) (8 + u32_at 4 (b ∷ bytes))) [
  | inl short ↦ absurd (let e = sym (cut_none (b ∷ bytes) (omega arith) (λ long. short)) ∙ filled in cc)
  | inr within ↦
      let whole : 8 ≤ length (b ∷ bytes) = omega arith in
      let rest : List ℕ = drop (8 + u32_at 4 (b ∷ bytes)) (b ∷ bytes) in
      let parts = behind_front (first_field (b ∷ bytes) ∷ []) fields (fields_of rest) (sym (front_step (b ∷ bytes) whole within) ∙ filled) in
      let fewer : length rest ≤ n = omega (arith, length-drop (8 + u32_at 4 (b ∷ bytes)) (b ∷ bytes)) in
      let read = reads_by n rest parts.0 fewer (All-drop IsByte (8 + u32_at 4 (b ∷ bytes)) (b ∷ bytes) all) parts.1 in
      subst (SubfieldsRead (b ∷ bytes)) (sym parts.2) (reads_on (b ∷ bytes) parts.0 all whole within read)
]

-- and the other way round
filled_by : (bytes : List ℕ) (fields : List Subfield) → length bytes < 2 ^ 31 → SubfieldsRead bytes fields → fields_of bytes ≡ Some fields
filled_by bytes fields small read =
    let whole : bytes ≡ subfields_text fields ++ [] = read.whole ∙ sym (append-nil (subfields_text fields)) in
    ap fields_of whole
    ∙ (front_passes fields [] read.ids (omega (arith, ap length whole)) ∙ (ap (before_others fields) no_fields ∙ ap (λ xs. Some xs) (append-nil fields)))

pub filled_reads : (bytes : List ℕ) (fields : List Subfield) → All IsByte bytes → length bytes < 2 ^ 31 → (fields_of bytes ≡ Some fields) ↔ SubfieldsRead bytes fields
filled_reads bytes fields all small = (λ filled. reads_by (length bytes) bytes fields (omega arith) all filled, λ read. filled_by bytes fields small read)
