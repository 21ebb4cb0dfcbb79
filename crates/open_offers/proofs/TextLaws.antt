-- Texts and numbers at a place in bytes: what they are of the bytes, and what is read of them where they stand.
use Rattle.std.proofs.Common.{◌≡◌, ℕ, zero, suc, ◌+◌, ◌*◌, ◌^◌, ◌<◌, ◌≤◌, List, [], ◌∷◌, ◌++◌, length, get_or, take, drop, refl, sym, ap, ◌∙◌, arith, append_assoc, add-one}
use Rattle.std.specs.Prelude.{All}
use Rattle.std.specs.List.{flat_map}
use Rattle.std.proofs.lemmas.List.{take-append-drop, length-take, length-drop, drop-drop, drop_at, take_at, drop_more, get_or-drop}
use Rattle.std.proofs.lemmas.List.Elements.{All-drop}
use Rattle.byteorder.specs.Endian.{little_number, little_bytes}
use Rattle.byteorder.specs.Numbers.{little_from-lt}
use Rattle.record_numbers.specs.byte_lists.Byte.{IsByte}
use Rattle.record_numbers.specs.Numbers.{u16_at, u32_at, u16_text, u32_text, u32s_text}
use Rattle.record_numbers.proofs.NumberFronts.{byte_small, u16_front, u32_front}
use Rattle.record_numbers.proofs.NumberLemmas.{bytes_of_number, number_of_bytes}
use Rattle.open_offers.specs.Texts.{sized_text, text_at, text_end, u16s_at, u32s_at, u64_at, u64_text}

-- ---- parts one behind the other
pub glue : (whole a b rest behind : List ℕ) → whole ≡ a ++ behind → behind ≡ b ++ rest → whole ≡ (a ++ b) ++ rest
glue whole a b rest behind e f = e ∙ (ap (λ xs. a ++ xs) f ∙ sym (append_assoc a b rest))

pub split : (whole a b rest : List ℕ) → whole ≡ (a ++ b) ++ rest → whole ≡ a ++ (b ++ rest)
split whole a b rest e = e ∙ append_assoc a b rest

-- ---- a byte
pub byte_front : (place : ℕ) (bytes : List ℕ) → place < length bytes → drop place bytes ≡ get_or bytes place 0 ∷ drop (place + 1) bytes
byte_front place bytes within = drop_more bytes place 0 within

-- what is behind a part at a place
behind_part : (place : ℕ) (bytes part rest : List ℕ) → drop place bytes ≡ part ++ rest → drop (place + length part) bytes ≡ rest
behind_part place bytes part rest e = sym (drop-drop (length part) place bytes) ∙ (ap (drop (length part)) e ∙ drop_at part rest (length part) refl)

pub byte_again : (place : ℕ) (bytes : List ℕ) (b : ℕ) (rest : List ℕ) → drop place bytes ≡ b ∷ rest → (get_or bytes place 0 ≡ b) × (drop (place + 1) bytes ≡ rest)
byte_again place bytes b rest e = (ap (λ k. get_or bytes k 0) (omega arith) ∙ (sym (get_or-drop place bytes 0 0) ∙ ap (λ xs. get_or xs 0 0) e), behind_part place bytes (b ∷ []) rest e)

-- ---- numbers
pub u16_small : (place : ℕ) (bytes : List ℕ) → All IsByte bytes → u16_at place bytes < 2 ^ 16
unfolding u16_at
u16_small place bytes all = little_from-lt 0 2 (drop place bytes) (byte_small (drop place bytes) (All-drop IsByte place bytes all))

pub u64_front : (place : ℕ) (bytes : List ℕ) → All IsByte bytes → place + 8 ≤ length bytes → drop place bytes ≡ u64_text (u64_at place bytes) ++ drop (place + 8) bytes
unfolding u64_at
u64_front place bytes all long =
    let rest : List ℕ = drop place bytes in
    let text : little_bytes 8 (little_number 8 rest) ≡ take 8 rest = bytes_of_number 8 rest (All-drop IsByte place bytes all) (omega (arith, length-drop place bytes)) in
    sym (take-append-drop 8 rest) ∙ (ap (λ xs. xs ++ drop 8 rest) (sym text) ∙ ap (λ xs. little_bytes 8 (little_number 8 rest) ++ xs) (drop-drop 8 place bytes))

pub u16_again : (place : ℕ) (bytes : List ℕ) (n : ℕ) (rest : List ℕ) → n < 2 ^ 16 → drop place bytes ≡ u16_text n ++ rest → (u16_at place bytes ≡ n) × (drop (place + 2) bytes ≡ rest)
unfolding u16_at
u16_again place bytes n rest small e = (ap (little_number 2) e ∙ number_of_bytes 2 n rest small, behind_part place bytes (u16_text n) rest e)

pub u32_again : (place : ℕ) (bytes : List ℕ) (n : ℕ) (rest : List ℕ) → n < 2 ^ 32 → drop place bytes ≡ u32_text n ++ rest → (u32_at place bytes ≡ n) × (drop (place + 4) bytes ≡ rest)
unfolding u32_at
u32_again place bytes n rest small e = (ap (little_number 4) e ∙ number_of_bytes 4 n rest small, behind_part place bytes (u32_text n) rest e)

pub u64_again : (place : ℕ) (bytes : List ℕ) (n : ℕ) (rest : List ℕ) → n < 2 ^ 64 → drop place bytes ≡ u64_text n ++ rest → (u64_at place bytes ≡ n) × (drop (place + 8) bytes ≡ rest)
unfolding u64_at
u64_again place bytes n rest small e = (ap (little_number 8) e ∙ number_of_bytes 8 n rest small, behind_part place bytes (u64_text n) rest e)

-- ---- texts
pub text_length : (place : ℕ) (bytes : List ℕ) → text_end place bytes ≤ length bytes → length (text_at place bytes) ≡ u16_at place bytes
unfolding text_at text_end
text_length place bytes long = omega (arith, length-take (u16_at place bytes) (drop (place + 2) bytes), length-drop (place + 2) bytes)

pub text_front : (place : ℕ) (bytes : List ℕ) → All IsByte bytes → text_end place bytes ≤ length bytes → drop place bytes ≡ sized_text (text_at place bytes) ++ drop (text_end place bytes) bytes
unfolding text_at text_end
text_front place bytes all long =
    let n : ℕ = u16_at place bytes in
    let text : List ℕ = take n (drop (place + 2) bytes) in
    let len : length text ≡ n = text_length place bytes long in
    let front : drop place bytes ≡ u16_text (length text) ++ drop (place + 2) bytes = u16_front place bytes all (omega arith) ∙ ap (λ k. u16_text k ++ drop (place + 2) bytes) (sym len) in
    let behind : drop (place + 2) bytes ≡ text ++ drop (place + 2 + n) bytes = sym (take-append-drop n (drop (place + 2) bytes)) ∙ ap (λ xs. text ++ xs) (drop-drop n (place + 2) bytes) in
    glue (drop place bytes) (u16_text (length text)) text (drop (place + 2 + n) bytes) (drop (place + 2) bytes) front behind

-- a text that stands at a place, where it ends, and what is behind it
pub record TextStands (place : ℕ) (bytes text rest : List ℕ) : Type 0 where
  pub is : text_at place bytes ≡ text
  pub end : text_end place bytes ≡ place + 2 + length text
  pub behind : drop (text_end place bytes) bytes ≡ rest

pub text_again : (place : ℕ) (bytes text rest : List ℕ) → length text < 2 ^ 16 → drop place bytes ≡ sized_text text ++ rest → TextStands place bytes text rest
unfolding text_at text_end
text_again place bytes text rest small e =
    let number = u16_again place bytes (length text) (text ++ rest) small (split (drop place bytes) (u16_text (length text)) text rest e) in
    record {
      is = ap (λ n. take n (drop (place + 2) bytes)) number.0 ∙ (ap (take (length text)) number.1 ∙ take_at text rest (length text) refl);
      end = ap (λ n. place + 2 + n) number.0;
      behind = ap (λ n. drop (place + 2 + n) bytes) number.0 ∙ behind_part (place + 2) bytes text rest number.1;
    }

-- ---- numbers in a row
pub u32s_front : (place n : ℕ) (bytes : List ℕ) → All IsByte bytes → place + 4 * n ≤ length bytes → drop place bytes ≡ u32s_text (u32s_at place n bytes) ++ drop (place + 4 * n) bytes
u32s_front place zero bytes all long = ap (λ k. drop k bytes) (omega arith)
u32s_front place (suc n) bytes all long =
    let others = u32s_front (place + 4) n bytes all (omega arith) in
    let end : drop (place + 4 + 4 * n) bytes ≡ drop (place + 4 * suc n) bytes = ap (λ k. drop k bytes) (omega arith) in
    glue (drop place bytes) (u32_text (u32_at place bytes)) (u32s_text (u32s_at (place + 4) n bytes)) (drop (place + 4 * suc n) bytes) (drop (place + 4) bytes)
    (u32_front place bytes all (omega arith)) (others ∙ ap (λ xs. u32s_text (u32s_at (place + 4) n bytes) ++ xs) end)

pub u16s_front : (place n : ℕ) (bytes : List ℕ) → All IsByte bytes → place + 2 * n ≤ length bytes → drop place bytes ≡ flat_map (little_bytes 2) (u16s_at place n bytes) ++ drop (place + 2 * n) bytes
u16s_front place zero bytes all long = ap (λ k. drop k bytes) (omega arith)
u16s_front place (suc n) bytes all long =
    let others = u16s_front (place + 2) n bytes all (omega arith) in
    let end : drop (place + 2 + 2 * n) bytes ≡ drop (place + 2 * suc n) bytes = ap (λ k. drop k bytes) (omega arith) in
    glue (drop place bytes) (u16_text (u16_at place bytes)) (flat_map (little_bytes 2) (u16s_at (place + 2) n bytes)) (drop (place + 2 * suc n) bytes) (drop (place + 2) bytes)
    (u16_front place bytes all (omega arith)) (others ∙ ap (λ xs. flat_map (little_bytes 2) (u16s_at (place + 2) n bytes) ++ xs) end)

pub u32s_again : (place : ℕ) (bytes numbers rest : List ℕ) → All (λ n. n < 2 ^ 32) numbers → drop place bytes ≡ u32s_text numbers ++ rest → (u32s_at place (length numbers) bytes ≡ numbers) × (drop (place + 4 * length numbers) bytes ≡ rest)
u32s_again place bytes [] rest small e = (refl, ap (λ k. drop k bytes) (omega arith) ∙ e)
u32s_again place bytes (n ∷ numbers) rest small e =
    let first = u32_again place bytes n (u32s_text numbers ++ rest) (small 0 0 (omega arith)) (split (drop place bytes) (u32_text n) (u32s_text numbers) rest e) in
    let others = u32s_again (place + 4) bytes numbers rest (All-drop (λ k. k < 2 ^ 32) 1 (n ∷ numbers) small) first.1 in
    (λ i. first.0 i ∷ others.0 i, ap (λ k. drop k bytes) (omega arith) ∙ others.1)

pub u16s_again : (place : ℕ) (bytes numbers rest : List ℕ) → All (λ n. n < 2 ^ 16) numbers → drop place bytes ≡ flat_map (little_bytes 2) numbers ++ rest → (u16s_at place (length numbers) bytes ≡ numbers) × (drop (place + 2 * length numbers) bytes ≡ rest)
u16s_again place bytes [] rest small e = (refl, ap (λ k. drop k bytes) (omega arith) ∙ e)
u16s_again place bytes (n ∷ numbers) rest small e =
    let first = u16_again place bytes n (flat_map (little_bytes 2) numbers ++ rest) (small 0 0 (omega arith)) (split (drop place bytes) (u16_text n) (flat_map (little_bytes 2) numbers) rest e) in
    let others = u16s_again (place + 2) bytes numbers rest (All-drop (λ k. k < 2 ^ 16) 1 (n ∷ numbers) small) first.1 in
    (λ i. first.0 i ∷ others.0 i, ap (λ k. drop k bytes) (omega arith) ∙ others.1)

-- ---- rows, one number after the other
more32 : (place n : ℕ) (bytes : List ℕ) → u32s_at place (suc n) bytes ≡ u32s_at place n bytes ++ u32_at (place + 4 * n) bytes ∷ []
more32 place zero bytes = ap (λ k. u32_at k bytes ∷ []) (omega arith)
more32 place (suc n) bytes =
    let end : u32s_at (place + 4) n bytes ++ u32_at (place + 4 + 4 * n) bytes ∷ [] ≡ u32s_at (place + 4) n bytes ++ u32_at (place + 4 * suc n) bytes ∷ [] = ap (λ k. u32s_at (place + 4) n bytes ++ u32_at k bytes ∷ []) (omega arith) in
    ap (λ xs. u32_at place bytes ∷ xs) (more32 (place + 4) n bytes ∙ end)

pub u32s_more : (place n : ℕ) (bytes : List ℕ) → u32s_at place (n + 1) bytes ≡ u32s_at place n bytes ++ u32_at (place + 4 * n) bytes ∷ []
u32s_more place n bytes = ap (λ k. u32s_at place k bytes) (add-one n) ∙ more32 place n bytes

more16 : (place n : ℕ) (bytes : List ℕ) → u16s_at place (suc n) bytes ≡ u16s_at place n bytes ++ u16_at (place + 2 * n) bytes ∷ []
more16 place zero bytes = ap (λ k. u16_at k bytes ∷ []) (omega arith)
more16 place (suc n) bytes =
    let end : u16s_at (place + 2) n bytes ++ u16_at (place + 2 + 2 * n) bytes ∷ [] ≡ u16s_at (place + 2) n bytes ++ u16_at (place + 2 * suc n) bytes ∷ [] = ap (λ k. u16s_at (place + 2) n bytes ++ u16_at k bytes ∷ []) (omega arith) in
    ap (λ xs. u16_at place bytes ∷ xs) (more16 (place + 2) n bytes ∙ end)

pub u16s_more : (place n : ℕ) (bytes : List ℕ) → u16s_at place (n + 1) bytes ≡ u16s_at place n bytes ++ u16_at (place + 2 * n) bytes ∷ []
u16s_more place n bytes = ap (λ k. u16s_at place k bytes) (add-one n) ∙ more16 place n bytes
