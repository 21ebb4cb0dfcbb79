-- Subfields: what is read is what is written, and what is written is read.
use Rattle.std.proofs.Common.{◌≡◌, ℕ, ◌+◌, ◌^◌, ◌≤◌, ◌<◌, Bool, true, false, cond, List, [], ◌∷◌, ◌++◌, length, take, drop, Option, Some, None, refl, sym, ap, ◌∙◌, arith, append-nil, length-append}
use Rattle.std.specs.Prelude.{All}
use Rattle.std.proofs.lemmas.Bool.Decides.{nat_tests}
use Rattle.std.proofs.lemmas.List.{take_at, drop_at, take-append-drop, drop-drop, length-take, length-drop}
use Rattle.std.proofs.lemmas.List.Elements.{All-drop, All-nil, All-cons, All-head}
use Rattle.jam_records.specs.byte_lists.Byte.{IsByte}
use Rattle.jam_records.specs.record_numbers.Numbers.{u16_at, u32_at, u16_text, u32_text}
use Rattle.jam_records.specs.Subfields.{subfield_text, subfields_text}
use Rattle.jam_records.specs.declared.subfield.Subfield.{Subfield}
use Rattle.jam_records.proofs.SubfieldLemmas.{lo_is, hi_is, size_is, behind_head, text_length}
use Rattle.jam_records.proofs.record_numbers.NumberFronts.{u16_front, u32_front, u32_small}
use Rattle.jam_layout.specs.Fields.{has_field, field_at}
use Rattle.jam_layout.specs.InOrder.{FieldsFit}

abbrev pub subfield : ℕ → List ℕ → Subfield
subfield id value = record { lo = id; hi = 0; value = value }

no_number : u16_at 0 [] ≡ 0
unfolding u16_at
no_number = refl

-- ---- one subfield
abbrev pub taken : List ℕ → List ℕ → Option (List ℕ) × List ℕ
taken value rest = (Some value, rest)

abbrev picked : List ℕ → Bool → Option (List ℕ) × List ℕ
picked bytes b = cond b (Some (take (u32_at 4 bytes) (drop 8 bytes)), drop (8 + u32_at 4 bytes) bytes) (None, bytes)

-- the subfield of a value that may be missing
abbrev pub optional : ℕ → Option (List ℕ) → List Subfield
optional id None = []
optional id (Some value) = subfield id value ∷ []

has_field_is : (id : ℕ) (bytes : List ℕ) → has_field id bytes ≡ true → (8 ≤ length bytes) × (u16_at 0 bytes ≡ id) × (u16_at 2 bytes ≡ 0) × (8 + u32_at 4 bytes ≤ length bytes)
has_field_is id bytes e =
    (grind (arith, nat_tests), grind (arith, nat_tests), grind (arith, nat_tests), grind (arith, nat_tests))

field_there : (id : ℕ) (bytes : List ℕ) → 8 ≤ length bytes → u16_at 0 bytes ≡ id → u16_at 2 bytes ≡ 0 → 8 + u32_at 4 bytes ≤ length bytes → has_field id bytes ≡ true
field_there id bytes long is reserved whole = grind (arith, nat_tests)

field_other : (id : ℕ) (bytes : List ℕ) → (u16_at 0 bytes ≡ id → ⊥) → has_field id bytes ≡ false
field_other id bytes other = grind (arith, nat_tests)

pair_is : (x v y rest : List ℕ) → x ≡ v → y ≡ rest → taken x y ≡ taken v rest
pair_is x v y rest e f = cc

pub field_rest : (id : ℕ) (bytes : List ℕ) → All IsByte bytes → All IsByte (field_at id bytes).1
unfolding field_at
field_rest id bytes fits =
    let all : (b : Bool) → All IsByte (picked bytes b).1 = λ b. elim b as (λ b. All IsByte (picked bytes b).1) [
      | true ↦ All-drop IsByte (8 + u32_at 4 bytes) bytes fits
      | false ↦ fits
    ] in
    all (has_field id bytes)

-- a whole subfield and what follows
field_whole : (id : ℕ) (bytes : List ℕ) → All IsByte bytes → 8 ≤ length bytes → u16_at 0 bytes ≡ id → u16_at 2 bytes ≡ 0 → 8 + u32_at 4 bytes ≤ length bytes
    → bytes ≡ subfield_text (subfield id (take (u32_at 4 bytes) (drop 8 bytes))) ++ drop (8 + u32_at 4 bytes) bytes
unfolding subfield_text
field_whole id bytes fits long lo hi whole =
    let n : ℕ = u32_at 4 bytes in
    let value : List ℕ = take n (drop 8 bytes) in
    let len : n ≡ length value = omega (arith, length-take n (drop 8 bytes), length-drop 8 bytes) in
    let a : bytes ≡ u16_text id ++ drop 2 bytes = u16_front 0 bytes fits (omega arith) ∙ ap (λ k. u16_text k ++ drop 2 bytes) lo in
    let b : drop 2 bytes ≡ u16_text 0 ++ drop 4 bytes = u16_front 2 bytes fits (omega arith) ∙ ap (λ k. u16_text k ++ drop 4 bytes) hi in
    let d : drop 4 bytes ≡ u32_text (length value) ++ drop 8 bytes = u32_front 4 bytes fits (omega arith) ∙ ap (λ k. u32_text k ++ drop 8 bytes) len in
    let e : drop 8 bytes ≡ value ++ drop (8 + n) bytes = sym (take-append-drop n (drop 8 bytes)) ∙ ap (λ xs. value ++ xs) (drop-drop n 8 bytes) in
    a ∙ ap (λ xs. u16_text id ++ xs) (b ∙ ap (λ xs. u16_text 0 ++ xs) (d ∙ ap (λ xs. u32_text (length value) ++ xs) e))

pub field_takes : (id : ℕ) (bytes : List ℕ) → All IsByte bytes → bytes ≡ subfields_text (optional id (field_at id bytes).0) ++ (field_at id bytes).1
unfolding field_at
field_takes id bytes fits =
    let rest : List ℕ = drop (8 + u32_at 4 bytes) bytes in
    let s : Subfield = subfield id (take (u32_at 4 bytes) (drop 8 bytes)) in
    let all : (b : Bool) → has_field id bytes ≡ b → bytes ≡ subfields_text (optional id (picked bytes b).0) ++ (picked bytes b).1 = λ b. elim b as (λ b. has_field id bytes ≡ b → bytes ≡ subfields_text (optional id (picked bytes b).0) ++ (picked bytes b).1) [
      | true ↦ λ e. let h = has_field_is id bytes e in field_whole id bytes fits h.0 h.1 h.2 h.3 ∙ ap (λ xs. xs ++ rest) (sym (append-nil (subfield_text s)))
      | false ↦ λ e. refl
    ] in
    all (has_field id bytes) refl

pub field_fits : (id : ℕ) (bytes : List ℕ) → All IsByte bytes → FieldsFit (optional id (field_at id bytes).0)
unfolding field_at
field_fits id bytes fits =
    let value : List ℕ = take (u32_at 4 bytes) (drop 8 bytes) in
    let short : length value < 2 ^ 32 = omega (arith, length-take (u32_at 4 bytes) (drop 8 bytes), u32_small 4 bytes fits) in
    let all : (b : Bool) → FieldsFit (optional id (picked bytes b).0) = λ b. elim b as (λ b. FieldsFit (optional id (picked bytes b).0)) [
      | true ↦ All-cons (λ s. length s.value < 2 ^ 32) (subfield id value) [] short (All-nil (λ s. length s.value < 2 ^ 32))
      | false ↦ All-nil (λ s. length s.value < 2 ^ 32)
    ] in
    all (has_field id bytes)

field_again : (id : ℕ) (value rest : List ℕ) → id < 2 ^ 16 → length value < 2 ^ 32 → field_at id (subfield_text (subfield id value) ++ rest) ≡ taken value rest
unfolding field_at
field_again id value rest small short =
    let s : Subfield = subfield id value in
    let bytes : List ℕ = subfield_text s ++ rest in
    let n : u32_at 4 bytes ≡ length value = size_is s rest short in
    let len : length bytes ≡ 8 + length value + length rest = length-append (subfield_text s) rest ∙ ap (λ k. k + length rest) (text_length s) in
    let there : has_field id bytes ≡ true = field_there id bytes (omega arith) (lo_is s rest small) (hi_is s rest (omega arith)) (omega arith) in
    let found : picked bytes (has_field id bytes) ≡ picked bytes true = ap (picked bytes) there in
    let front : take (u32_at 4 bytes) (drop 8 bytes) ≡ value = ap (λ k. take k (drop 8 bytes)) n ∙ (ap (take (length value)) (behind_head s rest) ∙ take_at value rest (length value) refl) in
    let after : drop (8 + u32_at 4 bytes) bytes ≡ rest = ap (λ k. drop (8 + k) bytes) n ∙ (sym (drop-drop (length value) 8 bytes) ∙ (ap (drop (length value)) (behind_head s rest) ∙ drop_at value rest (length value) refl)) in
    found ∙ pair_is (take (u32_at 4 bytes) (drop 8 bytes)) value (drop (8 + u32_at 4 bytes) bytes) rest front after

-- ---- a value that may be missing, before subfields of greater ids
abbrev pub Above : ℕ → List Subfield → Type 0
Above id [] = Unit {0}
Above id (s ∷ rest) = (id < s.lo) × (s.lo < 2 ^ 16)

abbrev found : Option (List ℕ) → List Subfield → Option (List ℕ) × List ℕ
found value rest = (value, subfields_text rest)

field_skipped : (id : ℕ) (rest : List Subfield) → Above id rest → field_at id (subfields_text rest) ≡ found None rest
unfolding field_at
field_skipped id [] above = refl
field_skipped id (s ∷ rest) above =
    let bytes : List ℕ = subfields_text (s ∷ rest) in
    let lo : u16_at 0 bytes ≡ s.lo = lo_is s (subfields_text rest) above.1 in
    ap (picked bytes) (field_other id bytes (λ e. omega (arith, above.0)))

pub field_found : (id : ℕ) (v : Option (List ℕ)) (rest : List Subfield) → id < 2 ^ 16 → FieldsFit (optional id v ++ rest) → Above id rest → field_at id (subfields_text (optional id v ++ rest)) ≡ found v rest
field_found id None rest small fits above = field_skipped id rest above
field_found id (Some value) rest small fits above =
    field_again id value (subfields_text rest) small (All-head (λ s. length s.value < 2 ^ 32) (subfield id value) rest fits)
