-- What stands behind the last packet in a record is read exactly where its text stands, in either version.
use Rattle.std.proofs.Common.{◌≡◌, ℕ, zero, suc, ◌+◌, ◌*◌, ◌^◌, ◌<◌, ◌≤◌, List, [], ◌∷◌, ◌++◌, length, drop, refl, sym, ap, ◌∙◌, arith}
use Rattle.std.specs.Prelude.{All}
use Rattle.std.specs.List.{flat_map}
use Rattle.std.proofs.lemmas.List.Elements.{All-nil, All-cons, All-head, All-tail}
use Rattle.record_numbers.specs.byte_lists.Byte.{IsByte}
use Rattle.record_numbers.specs.Numbers.{u32_at, u32_text, u32s_text, IsU32}
use Rattle.record_numbers.proofs.NumberFronts.{u32_front, u32_small}
use Rattle.open_offers.specs.Offers.{behind_last, behind_size, cell_size, cell_text, cells_at, cells_behind, cells_size, members_at, offer_at}
use Rattle.open_offers.specs.Texts.{u32s_at, u64_at, u64_text}
use Rattle.open_offers.specs.declared.offer.OpenOffer.{OpenOffer}
use Rattle.open_offers.specs.declared.version.Version.{Version}
use Rattle.open_offers.specs.declared.version.Version.TheVariants.{First, Second}
use Rattle.open_offers.proofs.OfferLaws.{CellFits, HasCells}
use Rattle.open_offers.proofs.TextLaws.{glue, split, u64_front, u32_again, u64_again, u32s_front, u32s_again}

-- ---- what is read is written so
one_front : (at count : ℕ) (bytes : List ℕ) → All IsByte bytes → at + cell_size count ≤ length bytes
    → drop at bytes ≡ cell_text (offer_at at (at + 4) count bytes) ++ drop (at + cell_size count) bytes
one_front at count bytes all long =
    let end : drop (at + 4 + 4 * count) bytes ≡ drop (at + cell_size count) bytes = ap (λ k. drop k bytes) (omega arith) in
    glue (drop at bytes) (u32_text (u32_at at bytes)) (u32s_text (u32s_at (at + 4) count bytes)) (drop (at + cell_size count) bytes) (drop (at + 4) bytes)
    (u32_front at bytes all (omega arith)) (u32s_front (at + 4) count bytes all (omega arith) ∙ ap (λ xs. u32s_text (u32s_at (at + 4) count bytes) ++ xs) end)

cells_front : (at count n : ℕ) (bytes : List ℕ) → All IsByte bytes → at + cells_size count n ≤ length bytes → drop at bytes ≡ flat_map cell_text (cells_at at count n bytes) ++ drop (at + cells_size count n) bytes
cells_front at count zero bytes all long = ap (λ k. drop k bytes) (omega arith)
cells_front at count (suc n) bytes all long =
    let next : ℕ = at + cell_size count in
    let others = cells_front next count n bytes all (omega (arith, long)) in
    let end : drop (next + cells_size count n) bytes ≡ drop (at + cells_size count (suc n)) bytes = ap (λ k. drop k bytes) (omega arith) in
    glue (drop at bytes) (cell_text (offer_at at (at + 4) count bytes)) (flat_map cell_text (cells_at next count n bytes)) (drop (at + cells_size count (suc n)) bytes) (drop next bytes)
    (one_front at count bytes all (omega (arith, long))) (others ∙ ap (λ xs. flat_map cell_text (cells_at next count n bytes) ++ xs) end)

pub behind_front : (v : Version) (at count : ℕ) (bytes : List ℕ) → All IsByte bytes → at + behind_size v count ≤ length bytes
    → drop at bytes ≡ behind_last v (members_at v at bytes) (cells_behind v at count bytes) ++ drop (at + behind_size v count) bytes
behind_front First at count bytes all long =
    let number : List ℕ = u32_text (u32_at at bytes) in
    let members : List ℕ = u64_text (u64_at (at + 4) bytes) in
    let highs : List ℕ = u32s_text (u32s_at (at + 12) count bytes) in
    let end : List ℕ = drop (at + (12 + 4 * count)) bytes in
    let at12 : drop (at + 4 + 8) bytes ≡ drop (at + 12) bytes = ap (λ k. drop k bytes) (omega arith) in
    let at_end : drop (at + 12 + 4 * count) bytes ≡ end = ap (λ k. drop k bytes) (omega arith) in
    let a : drop at bytes ≡ number ++ drop (at + 4) bytes = u32_front at bytes all (omega arith) in
    let b : drop (at + 4) bytes ≡ members ++ drop (at + 12) bytes = u64_front (at + 4) bytes all (omega arith) ∙ ap (λ xs. members ++ xs) at12 in
    let d : drop (at + 12) bytes ≡ highs ++ end = u32s_front (at + 12) count bytes all (omega arith) ∙ ap (λ xs. highs ++ xs) at_end in
    glue (drop at bytes) number (members ++ highs) end (drop (at + 4) bytes) a (glue (drop (at + 4) bytes) members highs end (drop (at + 12) bytes) b d)
behind_front Second at count bytes all long =
    let cells : List ℕ = flat_map cell_text (cells_at (at + 8) count 4 bytes) in
    let end : drop (at + 8 + cells_size count 4) bytes ≡ drop (at + (8 + cells_size count 4)) bytes = ap (λ k. drop k bytes) (omega arith) in
    glue (drop at bytes) (u64_text (u64_at at bytes)) cells (drop (at + (8 + cells_size count 4)) bytes) (drop (at + 8) bytes)
    (u64_front at bytes all (omega arith)) (cells_front (at + 8) count 4 bytes all (omega arith) ∙ ap (λ xs. cells ++ xs) end)

-- ---- cells that are read are cells
highs_count : (at n : ℕ) (bytes : List ℕ) → length (u32s_at at n bytes) ≡ n
highs_count at zero bytes = refl
highs_count at (suc n) bytes = ap suc (highs_count (at + 4) n bytes)

highs_small : (at n : ℕ) (bytes : List ℕ) → All IsByte bytes → All IsU32 (u32s_at at n bytes)
highs_small at zero bytes all = All-nil IsU32
highs_small at (suc n) bytes all = All-cons IsU32 (u32_at at bytes) (u32s_at (at + 4) n bytes) (u32_small at bytes all) (highs_small (at + 4) n bytes all)

cell_fits : (number highs count : ℕ) (bytes : List ℕ) → All IsByte bytes → CellFits count (offer_at number highs count bytes)
cell_fits number highs count bytes all = record { number = u32_small number bytes all; many = highs_count highs count bytes; small = highs_small highs count bytes all }

cells_count : (at count n : ℕ) (bytes : List ℕ) → length (cells_at at count n bytes) ≡ n
cells_count at count zero bytes = refl
cells_count at count (suc n) bytes = ap suc (cells_count (at + cell_size count) count n bytes)

cells_fit : (at count n : ℕ) (bytes : List ℕ) → All IsByte bytes → All (CellFits count) (cells_at at count n bytes)
cells_fit at count zero bytes all = All-nil (CellFits count)
cells_fit at count (suc n) bytes all =
    All-cons (CellFits count) (offer_at at (at + 4) count bytes) (cells_at (at + cell_size count) count n bytes)
    (cell_fits at (at + 4) count bytes all) (cells_fit (at + cell_size count) count n bytes all)

pub has_read : (v : Version) (at count : ℕ) (bytes : List ℕ) → All IsByte bytes → HasCells v count (cells_behind v at count bytes)
has_read First at count bytes all = record {
  many = refl;
  each = All-cons (CellFits count) (offer_at at (at + 12) count bytes) [] (cell_fits at (at + 12) count bytes all) (All-nil (CellFits count));
}
has_read Second at count bytes all = record { many = cells_count (at + 8) count 4 bytes; each = cells_fit (at + 8) count 4 bytes all }

-- ---- what is written is read
one_again : (at count : ℕ) (bytes : List ℕ) (o : OpenOffer) (rest : List ℕ) → CellFits count o → drop at bytes ≡ cell_text o ++ rest → (offer_at at (at + 4) count bytes ≡ o) × (drop (at + cell_size count) bytes ≡ rest)
one_again at count bytes o rest fits e =
    let first = u32_again at bytes o.number (u32s_text o.highs ++ rest) fits.number (split (drop at bytes) (u32_text o.number) (u32s_text o.highs) rest e) in
    let others = u32s_again (at + 4) bytes o.highs rest fits.small first.1 in
    let highs : u32s_at (at + 4) count bytes ≡ o.highs = ap (λ n. u32s_at (at + 4) n bytes) (sym fits.many) ∙ others.0 in
    ((λ i. record { number = first.0 i; highs = highs i }), ap (λ k. drop k bytes) (omega (arith, fits.many)) ∙ others.1)

cells_again : (at count : ℕ) (bytes : List ℕ) (cells : List OpenOffer) (rest : List ℕ) → All (CellFits count) cells → drop at bytes ≡ flat_map cell_text cells ++ rest
    → (cells_at at count (length cells) bytes ≡ cells) × (drop (at + cells_size count (length cells)) bytes ≡ rest)
cells_again at count bytes [] rest each e = (refl, ap (λ k. drop k bytes) (omega arith) ∙ e)
cells_again at count bytes (o ∷ cells) rest each e =
    let one = one_again at count bytes o (flat_map cell_text cells ++ rest) (All-head (CellFits count) o cells each) (split (drop at bytes) (cell_text o) (flat_map cell_text cells) rest e) in
    let others = cells_again (at + cell_size count) count bytes cells rest (All-tail (CellFits count) o cells each) one.1 in
    ((λ i. one.0 i ∷ others.0 i), ap (λ k. drop k bytes) (omega arith) ∙ others.1)

-- what stands behind the last packet
pub record BehindLast (v : Version) (at count : ℕ) (bytes : List ℕ) (members : ℕ) (cells : List OpenOffer) (rest : List ℕ) : Type 0 where
  pub members_are : members_at v at bytes ≡ members
  pub cells_are : cells_behind v at count bytes ≡ cells
  pub behind : drop (at + behind_size v count) bytes ≡ rest

pub behind_again : (v : Version) (at count : ℕ) (bytes : List ℕ) (members : ℕ) (cells : List OpenOffer) (rest : List ℕ) → HasCells v count cells → members < 2 ^ 64
    → drop at bytes ≡ behind_last v members cells ++ rest → BehindLast v at count bytes members cells rest
behind_again First at count bytes members [] rest has small e = absurd (let none = has.many in cc none)
behind_again First at count bytes members (o ∷ []) rest has small e =
    let n : List ℕ = u32_text o.number in
    let m : List ℕ = u64_text members in
    let h : List ℕ = u32s_text o.highs in
    let here = All-head (CellFits count) o [] has.each in
    let a = u32_again at bytes o.number ((m ++ h) ++ rest) here.number (split (drop at bytes) n (m ++ h) rest e) in
    let b = u64_again (at + 4) bytes members (h ++ rest) small (split (drop (at + 4) bytes) m h rest a.1) in
    let at12 : drop (at + 12) bytes ≡ h ++ rest = ap (λ k. drop k bytes) (omega arith) ∙ b.1 in
    let d = u32s_again (at + 12) bytes o.highs rest here.small at12 in
    let highs : u32s_at (at + 12) count bytes ≡ o.highs = ap (λ k. u32s_at (at + 12) k bytes) (sym here.many) ∙ d.0 in
    record {
      members_are = b.0;
      cells_are = λ i. record { number = a.0 i; highs = highs i } ∷ [];
      behind = ap (λ k. drop k bytes) (omega (arith, here.many)) ∙ d.1;
    }
behind_again First at count bytes members (o ∷ p ∷ cells) rest has small e = absurd (let more = has.many in cc more)
behind_again Second at count bytes members cells rest has small e =
    let a = u64_again at bytes members (flat_map cell_text cells ++ rest) small (split (drop at bytes) (u64_text members) (flat_map cell_text cells) rest e) in
    let b = cells_again (at + 8) count bytes cells rest has.each a.1 in
    record {
      members_are = a.0;
      cells_are = ap (λ n. cells_at (at + 8) count n bytes) (sym has.many) ∙ b.0;
      behind = ap (λ k. drop k bytes) (omega (arith, ap (cells_size count) has.many)) ∙ b.1;
    }
