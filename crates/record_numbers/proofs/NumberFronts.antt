-- Numbers at a place in bytes, and what follows them.
use Rattle.std.proofs.Common.{◌≡◌, ℕ, zero, suc, ◌+◌, ◌-◌, ◌*◌, ◌^◌, ◌<◌, ◌≤◌, List, [], ◌∷◌, ◌++◌, length, get_or, take, drop, sym, ap, ◌∙◌, inl, inr, arith, append_assoc}
use Rattle.std.specs.Prelude.{All}
use Rattle.std.proofs.lemmas.Bool.{cases_lt}
use Rattle.std.proofs.lemmas.List.{take-append-drop, length-drop, drop-drop, drop-take, get_or_past}
use Rattle.std.proofs.lemmas.List.Elements.{All-drop}
use Rattle.byteorder.specs.Endian.{little_number, little_bytes}
use Rattle.byteorder.specs.Numbers.{little_from-lt, little_from-take}
use Rattle.byte_lists.specs.Byte.{IsByte}
use Rattle.record_numbers.specs.Numbers.{u16_at, u32_at, u16_text, u32_text, u32s_text}
use Rattle.record_numbers.proofs.NumberLemmas.{bytes_of_number}

pub byte_small : (bytes : List ℕ) → All IsByte bytes → (k : ℕ) → get_or bytes k 0 < 256
byte_small bytes all k = elim (cases_lt k (length bytes)) [
  | inl within ↦ all k 0 within
  | inr past ↦ rw (get_or_past bytes k 0 past) (omega arith)
]

pub u32_small : (place : ℕ) (bytes : List ℕ) → All IsByte bytes → u32_at place bytes < 2 ^ 32
unfolding u32_at
u32_small place bytes all = little_from-lt 0 4 (drop place bytes) (byte_small (drop place bytes) (All-drop IsByte place bytes all))

-- the number of some bytes at a place, and what follows
number_front : (width place : ℕ) (bytes : List ℕ) → All IsByte bytes → place + width ≤ length bytes → drop place bytes ≡ little_bytes width (little_number width (drop place bytes)) ++ drop (place + width) bytes
number_front width place bytes all long =
    let rest : List ℕ = drop place bytes in
    let text : little_bytes width (little_number width rest) ≡ take width rest = bytes_of_number width rest (All-drop IsByte place bytes all) (omega (arith, length-drop place bytes)) in
    let after : drop width rest ≡ drop (place + width) bytes = drop-drop width place bytes ∙ ap (λ n. drop n bytes) (omega arith) in
    sym (take-append-drop width rest) ∙ (ap (λ xs. xs ++ drop width rest) (sym text) ∙ ap (λ xs. little_bytes width (little_number width rest) ++ xs) after)

pub u32_front : (place : ℕ) (bytes : List ℕ) → All IsByte bytes → place + 4 ≤ length bytes → drop place bytes ≡ u32_text (u32_at place bytes) ++ drop (place + 4) bytes
unfolding u32_at
u32_front place bytes all long = number_front 4 place bytes all long

pub u16_front : (place : ℕ) (bytes : List ℕ) → All IsByte bytes → place + 2 ≤ length bytes → drop place bytes ≡ u16_text (u16_at place bytes) ++ drop (place + 2) bytes
unfolding u16_at
u16_front place bytes all long = number_front 2 place bytes all long

-- so many numbers of four bytes from a place on
abbrev pub numbers_at : ℕ → ℕ → List ℕ → List ℕ
numbers_at place zero bytes = []
numbers_at place (suc n) bytes = u32_at place bytes ∷ numbers_at (place + 4) n bytes

pub numbers_front : (place n : ℕ) (bytes : List ℕ) → All IsByte bytes → place + 4 * n ≤ length bytes → drop place bytes ≡ u32s_text (numbers_at place n bytes) ++ drop (place + 4 * n) bytes
numbers_front place zero bytes all long = ap (λ k. drop k bytes) (omega arith)
numbers_front place (suc n) bytes all long =
    let first = u32_front place bytes all (omega arith) in
    let others = numbers_front (place + 4) n bytes all (omega arith) in
    let end : drop (place + 4 + 4 * n) bytes ≡ drop (place + 4 * suc n) bytes = ap (λ k. drop k bytes) (omega arith) in
    first ∙ (ap (λ xs. u32_text (u32_at place bytes) ++ xs) (others ∙ ap (λ xs. u32s_text (numbers_at (place + 4) n bytes) ++ xs) end)
    ∙ sym (append_assoc (u32_text (u32_at place bytes)) (u32s_text (numbers_at (place + 4) n bytes)) (drop (place + 4 * suc n) bytes)))

-- a number is that of any front that has it
pub u32_at-take : (place n : ℕ) (bytes : List ℕ) → place + 4 ≤ n → u32_at place (take n bytes) ≡ u32_at place bytes
unfolding u32_at
u32_at-take place n bytes within =
    let split : n ≡ place + (n - place) = omega arith in
    ap (λ k. little_number 4 (drop place (take k bytes))) split
    ∙ ap (little_number 4) (drop-take place (n - place) bytes)
    ∙ little_from-take 0 4 (n - place) (drop place bytes) (omega arith)
