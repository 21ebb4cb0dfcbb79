-- One whole subfield at a place.
use Rattle.std.proofs.Common.{◌≡◌, ℕ, ◌+◌, ◌-◌, ◌≤◌, List, [], ◌∷◌, ◌++◌, length, take, drop, refl, sym, ap, ◌∙◌, arith, append-nil}
use Rattle.std.specs.Prelude.{All, bit_and}
use Rattle.std.proofs.lemmas.List.{length-drop, length-take, take-append-drop, drop-drop, drop-take}
use Rattle.std.proofs.lemmas.List.Elements.{All-nil, All-cons, All-drop, All-take}
use Rattle.byteorder.specs.Numbers.{little_from-lt, little_from-take}
use Rattle.byteorder.specs.Endian.{little_number}
use Rattle.byte_lists.specs.Byte.{IsByte}
use Rattle.record_numbers.specs.Numbers.{u16_at, u32_at, IsU16}
use Rattle.record_numbers.proofs.NumberFronts.{byte_small}
use Rattle.jam_records.specs.Subfields.{subfield_text, IsSubfield}
use Rattle.jam_records.specs.declared.subfield.Subfield.{Subfield}
use Rattle.jam_records.proofs.SubfieldLemmas.{subfield_of_bytes, taken_length}
use Rattle.jam_adopt.specs.Leaps.{bit_of_id, PassesFields}

-- a number at a place is that at the front of what stands from there on
pub u16_at-drop : (place at : ℕ) (bytes : List ℕ) → u16_at place (drop at bytes) ≡ u16_at (at + place) bytes
unfolding u16_at
u16_at-drop place at bytes = ap (little_number 2) (drop-drop place at bytes)

pub u32_at-drop : (place at : ℕ) (bytes : List ℕ) → u32_at place (drop at bytes) ≡ u32_at (at + place) bytes
unfolding u32_at
u32_at-drop place at bytes = ap (little_number 4) (drop-drop place at bytes)

pub u16_at-take : (place n : ℕ) (bytes : List ℕ) → place + 2 ≤ n → u16_at place (take n bytes) ≡ u16_at place bytes
unfolding u16_at
u16_at-take place n bytes within =
    let split : n ≡ place + (n - place) = omega arith in
    ap (λ k. little_number 2 (drop place (take k bytes))) split
    ∙ ap (little_number 2) (drop-take place (n - place) bytes)
    ∙ little_from-take 0 2 (n - place) (drop place bytes) (omega arith)

pub u16_small : (place : ℕ) (bytes : List ℕ) → All IsByte bytes → IsU16 (u16_at place bytes)
unfolding u16_at
u16_small place bytes all = little_from-lt 0 2 (drop place bytes) (byte_small (drop place bytes) (All-drop IsByte place bytes all))

-- the subfield that these bytes are
abbrev pub field_of : List ℕ → Subfield
field_of bytes = record { lo = u16_at 0 bytes; hi = u16_at 2 bytes; value = drop 8 bytes }

-- the bytes up to its end are its text
pub whole_field : (jhr : List ℕ) (at end : ℕ) → All IsByte jhr → at + 8 ≤ end → end ≤ length jhr → end ≡ at + 8 + u32_at (at + 4) jhr → drop at jhr ≡ subfield_text (field_of (take (end - at) (drop at jhr))) ++ drop end jhr
whole_field jhr at end all long within is =
    let rest : List ℕ = drop at jhr in
    let left : length rest ≡ length jhr - at = length-drop at jhr in
    let bytes : List ℕ = take (end - at) rest in
    let len : end - at ≡ 8 + u32_at 4 rest = omega (arith, u32_at-drop 4 at jhr) in
    let size : length bytes ≡ 8 + u32_at 4 bytes = taken_length rest (end - at) (omega arith) (omega arith) len in
    let text : bytes ≡ subfield_text (field_of bytes)
    = subfield_of_bytes bytes (u16_at 0 bytes) (u16_at 2 bytes) (drop 8 bytes) (All-take IsByte (end - at) rest (All-drop IsByte at jhr all)) (omega (arith, length-take (end - at) rest)) size refl refl refl in
    let behind : drop (end - at) rest ≡ drop end jhr = drop-drop (end - at) at jhr ∙ ap (λ n. drop n jhr) (omega arith) in
    sym (take-append-drop (end - at) rest) ∙ (ap (λ xs. xs ++ drop (end - at) rest) text ∙ ap (λ xs. subfield_text (field_of bytes) ++ xs) behind)

-- it may be passed over where its id has none of these bits
pub passes_one : (jhr : List ℕ) (at end bits : ℕ) → All IsByte jhr → at + 8 ≤ end → end ≤ length jhr → end ≡ at + 8 + u32_at (at + 4) jhr → bit_and (bit_of_id (u16_at at jhr)) bits ≡ 0 → PassesFields jhr bits at end
passes_one jhr at end bits all long within is other =
    let bytes : List ℕ = take (end - at) (drop at jhr) in
    let s : Subfield = field_of bytes in
    let lo : u16_at 0 bytes ≡ u16_at at jhr = u16_at-take 0 (end - at) (drop at jhr) (omega arith) ∙ (u16_at-drop 0 at jhr ∙ ap (λ n. u16_at n jhr) (omega arith)) in
    let bytes_small = All-take IsByte (end - at) (drop at jhr) (All-drop IsByte at jhr all) in
    record {
      fields = s ∷ [];
      ids = All-cons IsSubfield s [] (u16_small 0 bytes bytes_small, u16_small 2 bytes bytes_small) (All-nil IsSubfield);
      others = All-cons (λ f. bit_and (bit_of_id f.lo) bits ≡ 0) s [] (ap (λ n. bit_and (bit_of_id n) bits) lo ∙ other) (All-nil (λ f. bit_and (bit_of_id f.lo) bits ≡ 0));
      rising = omega arith;
      within = within;
      whole = whole_field jhr at end all long within is ∙ ap (λ xs. xs ++ drop end jhr) (sym (append-nil (subfield_text s)));
    }
