-- The base header: what is read is the layout, and the layout is read.
use Rattle.std.proofs.Common.{◌≡◌, ℕ, zero, suc, ◌+◌, ◌^◌, ◌≤◌, ◌<◌, Bool, true, not, ◌||◌, eqb, List, [], ◌∷◌, ◌++◌, length, take, drop, replicate, refl, sym, ap, ◌∙◌, arith, append_assoc}
use Rattle.std.specs.Prelude.{All}
use Rattle.std.specs.List.{list_all}
use Rattle.std.proofs.Math.ListN.{length-replicate}
use Rattle.std.proofs.lemmas.Bool.{ltb-false, le-ltb, eqb-true, and_parts}
use Rattle.std.proofs.lemmas.Slice.Eq.{bytes_eq-Decides}
use Rattle.std.proofs.lemmas.List.{take_at, drop_at, take-append-drop, drop-drop, length-take, length-drop}
use Rattle.std.proofs.lemmas.List.Elements.{All-cons, All-nil}
use Rattle.jam_records.specs.byte_lists.Byte.{IsByte}
use Rattle.jam_records.specs.record_numbers.Numbers.{u32_at, u32s_text, IsU32}
use Rattle.jam_records.specs.Signature.{signature}
use Rattle.jam_records.specs.BaseHeaders.{base_header_at, base_fields, base_text, IsBaseHeader, BaseHeaderStands}
use Rattle.jam_records.specs.declared.base_header.BaseHeader.{BaseHeader}
use Rattle.jam_records.proofs.HeaderLemmas.{base_stands}
use Rattle.jam_layout.specs.Layout.{wrong_base, base_rules}
use Rattle.jam_layout.specs.declared.shape.Shape.{Shape}
use Rattle.damage_rules.proofs.KeptRules.{Kept}
use Rattle.jam_records.proofs.record_numbers.NumberFronts.{numbers_front}
use Rattle.damage_rules.proofs.BoolTests.{or_false, not_not, both_false, equal, unequal}

-- ---- zeros
abbrev is_zero : ℕ → Bool
is_zero b = eqb b 0

zeros_are : (n : ℕ) (xs : List ℕ) → length xs ≡ n → list_all is_zero xs ≡ true → xs ≡ replicate n 0
zeros_are zero [] len all = refl
zeros_are (suc n) [] len all = absurd (omega arith)
zeros_are zero (x ∷ xs) len all = absurd (omega arith)
zeros_are (suc n) (x ∷ xs) len all =
    let a = and_parts (eqb x 0) (list_all is_zero xs) all in
    (λ i. eqb-true x 0 a.0 i ∷ zeros_are n xs (omega arith) a.1 i)

are_zeros : (n : ℕ) → list_all is_zero (replicate n 0) ≡ true
are_zeros zero = refl
are_zeros (suc n) = are_zeros n

-- ---- parts
parts : BaseHeader → List ℕ → List ℕ
parts h zeros = signature ++ (u32s_text (base_fields h) ++ zeros)

text_parts : (h : BaseHeader) → base_text h ≡ parts h (replicate 1000 0)
unfolding base_text parts
text_parts h = refl

behind_fields : (h : BaseHeader) (zeros rest : List ℕ) → drop 24 (parts h zeros ++ rest) ≡ zeros ++ rest
unfolding parts
behind_fields h zeros rest = refl

parts_length : (h : BaseHeader) (zeros : List ℕ) → length (parts h zeros) ≡ 24 + length zeros
unfolding parts
parts_length h zeros = omega arith

pub base_length : (h : BaseHeader) → length (base_text h) ≡ 1024
base_length h = ap length (text_parts h) ∙ (parts_length h (replicate 1000 0) ∙ ap (λ n. 24 + n) (length-replicate {A = ℕ} 1000 0))

abbrev pub header_of : Shape → ℕ → ℕ → BaseHeader
header_of shape counter active = record { created = shape.created; mod_counter = counter; active = active; password_crc = 0xFFFF_FFFF; base_number = 1 }

parts_front : (bytes : List ℕ) (h : BaseHeader) → All IsByte bytes → 1024 ≤ length bytes → take 4 bytes ≡ signature → base_header_at bytes ≡ h → bytes ≡ parts h (take 1000 (drop 24 bytes)) ++ drop 1024 bytes
unfolding parts
parts_front bytes h all long signed is =
    let zeros : List ℕ = take 1000 (drop 24 bytes) in
    let fields : drop 4 bytes ≡ u32s_text (base_fields (base_header_at bytes)) ++ drop 24 bytes = numbers_front 4 5 bytes all (omega arith) in
    let rest : drop 24 bytes ≡ zeros ++ drop 1024 bytes = sym (take-append-drop 1000 (drop 24 bytes)) ∙ ap (λ xs. zeros ++ xs) (drop-drop 1000 24 bytes) in
    sym (take-append-drop 4 bytes) ∙ (ap (λ xs. xs ++ drop 4 bytes) signed
    ∙ (ap (λ xs. signature ++ xs) (fields ∙ (ap (λ (x : BaseHeader). u32s_text (base_fields x) ++ drop 24 bytes) is ∙ ap (λ xs. u32s_text (base_fields h) ++ xs) rest)
    ∙ sym (append_assoc (u32s_text (base_fields h)) zeros (drop 1024 bytes))) ∙ sym (append_assoc signature (u32s_text (base_fields h) ++ zeros) (drop 1024 bytes))))

pub base_takes : (shape : Shape) (bytes : List ℕ) → All IsByte bytes → Kept (base_rules shape bytes) → (bytes ≡ base_text (header_of shape (u32_at 8 bytes) (u32_at 12 bytes)) ++ drop 1024 bytes) × (1024 ≤ length bytes)
unfolding base_rules wrong_base
base_takes shape bytes all k =
    let long : 1024 ≤ length bytes = ltb-false _ _ k.0 in
    let signed : take 4 bytes ≡ signature = (bytes_eq-Decides (take 4 bytes) signature).0 (not_not _ k.1.0) in
    let created : u32_at 4 bytes ≡ shape.created = equal (u32_at 4 bytes) shape.created k.1.1.0 in
    let zeros : List ℕ = take 1000 (drop 24 bytes) in
    let r = or_false (not (eqb (u32_at 16 bytes) 0xFFFF_FFFF) || not (eqb (u32_at 20 bytes) 1)) (not (list_all is_zero zeros)) k.1.1.1.0 in
    let s = or_false (not (eqb (u32_at 16 bytes) 0xFFFF_FFFF)) (not (eqb (u32_at 20 bytes) 1)) r.0 in
    let password : u32_at 16 bytes ≡ 0xFFFF_FFFF = equal (u32_at 16 bytes) 0xFFFF_FFFF s.0 in
    let number : u32_at 20 bytes ≡ 1 = equal (u32_at 20 bytes) 1 s.1 in
    let h : BaseHeader = header_of shape (u32_at 8 bytes) (u32_at 12 bytes) in
    let is : base_header_at bytes ≡ h = λ i. record { created = created i; mod_counter = u32_at 8 bytes; active = u32_at 12 bytes; password_crc = password i; base_number = number i } in
    let len : length zeros ≡ 1000 = omega (arith, length-take 1000 (drop 24 bytes), length-drop 24 bytes) in
    let same : zeros ≡ replicate 1000 0 = zeros_are 1000 zeros len (not_not (list_all is_zero zeros) r.1) in
    (parts_front bytes h all long signed is ∙ (ap (λ xs. parts h xs ++ drop 1024 bytes) same ∙ ap (λ xs. xs ++ drop 1024 bytes) (sym (text_parts h))), long)

pub record BaseAgain (shape : Shape) (counter active : ℕ) (rest bytes : List ℕ) : Type 0 where
  pub kept : Kept (base_rules shape bytes)
  pub counter_is : u32_at 8 bytes ≡ counter
  pub active_is : u32_at 12 bytes ≡ active
  pub behind : drop 1024 bytes ≡ rest

pub base_again : (shape : Shape) (counter active : ℕ) (rest : List ℕ) → IsU32 shape.created → IsU32 counter → IsU32 active → BaseAgain shape counter active rest (base_text (header_of shape counter active) ++ rest)
unfolding base_rules wrong_base
base_again shape counter active rest created count live =
    let h : BaseHeader = header_of shape counter active in
    let bytes : List ℕ = base_text h ++ rest in
    let one : 1 < 2 ^ 32 = omega arith in
    let ones : 0xFFFF_FFFF < 2 ^ 32 = omega arith in
    let numbers : IsBaseHeader h = All-cons IsU32 shape.created (counter ∷ active ∷ 0xFFFF_FFFF ∷ 1 ∷ []) created (All-cons IsU32 counter (active ∷ 0xFFFF_FFFF ∷ 1 ∷ []) count (All-cons IsU32 active (0xFFFF_FFFF ∷ 1 ∷ []) live (All-cons IsU32 0xFFFF_FFFF (1 ∷ []) ones (All-cons IsU32 1 [] one (All-nil IsU32))))) in
    let stands : BaseHeaderStands bytes h = base_stands h rest numbers in
    let f = sym stands.fields in
    let made : u32_at 4 bytes ≡ shape.created = ap (λ (x : BaseHeader). x.created) f in
    let password : u32_at 16 bytes ≡ 0xFFFF_FFFF = ap (λ (x : BaseHeader). x.password_crc) f in
    let number : u32_at 20 bytes ≡ 1 = ap (λ (x : BaseHeader). x.base_number) f in
    let zeros : take 1000 (drop 24 bytes) ≡ replicate 1000 0 =
    ap (λ xs. take 1000 (drop 24 (xs ++ rest))) (text_parts h) ∙ (ap (take 1000) (behind_fields h (replicate 1000 0) rest) ∙ take_at (replicate 1000 0) rest 1000 (length-replicate {A = ℕ} 1000 0)) in
    let all : list_all is_zero (take 1000 (drop 24 bytes)) ≡ true = ap (list_all is_zero) zeros ∙ are_zeros 1000 in
    record {
      kept = (le-ltb _ _ stands.whole, (ap not ((bytes_eq-Decides (take 4 bytes) signature).1 stands.signed), (unequal (u32_at 4 bytes) shape.created made, (both_false (not (eqb (u32_at 16 bytes) 0xFFFF_FFFF) || not (eqb (u32_at 20 bytes) 1)) (not (list_all is_zero (take 1000 (drop 24 bytes)))) (both_false (not (eqb (u32_at 16 bytes) 0xFFFF_FFFF)) (not (eqb (u32_at 20 bytes) 1)) (unequal (u32_at 16 bytes) 0xFFFF_FFFF password) (unequal (u32_at 20 bytes) 1 number)) (ap not all), tt))));
      counter_is = ap (λ (x : BaseHeader). x.mod_counter) f;
      active_is = ap (λ (x : BaseHeader). x.active) f;
      behind = drop_at (base_text h) rest 1024 (base_length h);
    }
