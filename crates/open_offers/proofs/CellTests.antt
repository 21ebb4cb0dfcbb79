-- Cells, one after the other as the loops over them go.
use Rattle.std.proofs.Common.{◌≡◌, ◌≢◌, ℕ, zero, suc, ◌+◌, ◌*◌, ◌-◌, ◌<◌, ◌≤◌, Bool, true, false, ◌&&◌, List, [], ◌∷◌, ◌++◌, length, get_or, take, drop, replicate, sym, ap, ◌∙◌, arith, append_assoc, append-nil}
use Rattle.std.specs.List.{flat_map, list_all}
use Rattle.std.proofs.lemmas.List.{at_drop_more, at_drop_all, replicate-append-replicate, take_more, take_all}
use Rattle.std.proofs.lemmas.Grind.{flat_map-append}
use Rattle.byteorder.specs.Endian.{little_bytes}
use Rattle.record_numbers.specs.Numbers.{u32s_text}
use Rattle.open_offers.specs.Offers.{cell_size, cell_text, cells_at, cells_for, cells_size, is_behind, is_nothing, offer_at, open_in, rise}
use Rattle.open_offers.specs.declared.offer.OpenOffer.{OpenOffer}
use Rattle.open_offers.proofs.OfferLaws.{none_open, one_open, rise_none, rise_open}

-- ---- rising
module _ (members last before k : ℕ) (cell : OpenOffer) (cells : List OpenOffer) (within : k < length cells) (is : cell ≡ get_or cells k cell) where
  rise_here : rise members last before (drop k cells) ≡ rise members last before (cell ∷ drop (k + 1) cells)
  rise_here = at_drop_more (rise members last before) cells k cell within ∙ ap (λ (o : OpenOffer). rise members last before (o ∷ drop (k + 1) cells)) (sym is)

  pub rise_ends : cell.number ≡ 0 → rise members last before (drop k cells) ≡ list_all is_nothing (drop k cells)
  rise_ends none =
      rise_here
      ∙ (rise_none members last before cell (drop (k + 1) cells) none
      ∙ sym (at_drop_more (list_all is_nothing) cells k cell within ∙ ap (λ (o : OpenOffer). list_all is_nothing (o ∷ drop (k + 1) cells)) (sym is)))

  rise_by : cell.number ≢ 0 → (b : Bool) → b ≡ is_behind members last before cell → rise members last before (drop k cells) ≡ (b && rise members last cell.number (drop (k + 1) cells))
  rise_by some b told = rise_here ∙ (rise_open members last before cell (drop (k + 1) cells) some ∙ ap (λ (a : Bool). a && rise members last cell.number (drop (k + 1) cells)) (sym told))

  pub rise_stops : cell.number ≢ 0 → (b : Bool) → b ≡ is_behind members last before cell → b ≡ false → rise members last before (drop k cells) ≡ false
  rise_stops some b told wrong = rise_by some b told ∙ ap (λ (a : Bool). a && rise members last cell.number (drop (k + 1) cells)) wrong

  pub rise_goes : cell.number ≢ 0 → (b : Bool) → b ≡ is_behind members last before cell → b ≡ true → rise members last before (drop k cells) ≡ rise members last cell.number (drop (k + 1) cells)
  rise_goes some b told fits = rise_by some b told ∙ ap (λ (a : Bool). a && rise members last cell.number (drop (k + 1) cells)) fits

-- ---- open offers
module _ (k : ℕ) (cell : OpenOffer) (cells : List OpenOffer) (within : k < length cells) (is : cell ≡ get_or cells k cell) where
  open_here : open_in (drop k cells) ≡ open_in (cell ∷ drop (k + 1) cells)
  open_here = at_drop_more open_in cells k cell within ∙ ap (λ (o : OpenOffer). open_in (o ∷ drop (k + 1) cells)) (sym is)

  pub open_ends : cell.number ≡ 0 → open_in cells ≡ take k cells ++ open_in (drop k cells) → take k cells ≡ open_in cells
  open_ends none so_far = sym (so_far ∙ (ap (λ (os : List OpenOffer). take k cells ++ os) (open_here ∙ none_open cell (drop (k + 1) cells) none) ∙ append-nil (take k cells)))

  pub open_goes : cell.number ≢ 0 → open_in cells ≡ take k cells ++ open_in (drop k cells) → open_in cells ≡ take (k + 1) cells ++ open_in (drop (k + 1) cells)
  open_goes some so_far =
      let next : take k cells ++ cell ∷ [] ≡ take (k + 1) cells = ap (λ (o : OpenOffer). take k cells ++ o ∷ []) is ∙ sym (take_more cells k cell within) in
      so_far
      ∙ (ap (λ (os : List OpenOffer). take k cells ++ os) (open_here ∙ one_open cell (drop (k + 1) cells) some)
      ∙ (sym (append_assoc (take k cells) (cell ∷ []) (open_in (drop (k + 1) cells)))
      ∙ ap (λ (os : List OpenOffer). os ++ open_in (drop (k + 1) cells)) next))

pub open_done : (k : ℕ) (cells : List OpenOffer) → length cells ≤ k → open_in cells ≡ take k cells ++ open_in (drop k cells) → (n : ℕ) → n ≡ length cells → take n cells ≡ open_in cells
open_done k cells past so_far n all =
    take_all n cells (omega (arith, all))
    ∙ sym (so_far ∙ (ap (λ (os : List OpenOffer). take k cells ++ os) (at_drop_all open_in cells k past) ∙ (append-nil (take k cells) ∙ take_all k cells past)))

-- ---- cells that are read
pub size_more : (count n left : ℕ) → n ≡ suc left → cells_size count n ≡ cell_size count + cells_size count left
size_more count n left counted = ap (cells_size count) counted

pub cells_more : (at next count n left : ℕ) (bytes : List ℕ) (before new : List OpenOffer) (cell : OpenOffer) (total : List OpenOffer) → n ≡ suc left → next ≡ at + cell_size count
    → cell ≡ offer_at at (at + 4) count bytes → new ≡ before ++ cell ∷ [] → before ++ cells_at at count n bytes ≡ total → new ++ cells_at next count left bytes ≡ total
cells_more at next count n left bytes before new cell total counted there is added so_far =
    (λ i. added i ++ cells_at (there i) count left bytes)
    ∙ (append_assoc before (cell ∷ []) (cells_at (at + cell_size count) count left bytes)
    ∙ (ap (λ (o : OpenOffer). before ++ o ∷ cells_at (at + cell_size count) count left bytes) is
    ∙ (ap (λ (m : ℕ). before ++ cells_at at count m bytes) (sym counted) ∙ so_far)))

-- ---- cells that are written
zeros_join : (m n : ℕ) → u32s_text (replicate m 0) ++ u32s_text (replicate n 0) ≡ u32s_text (replicate (m + n) 0)
zeros_join m n = sym (flat_map-append (little_bytes 4) (replicate m 0) (replicate n 0)) ∙ ap u32s_text (replicate-append-replicate m n 0)

rows : (n width : ℕ) → width + n * width ≡ suc n * width
rows n width = omega arith

no_rows : (width : ℕ) → 0 ≡ 0 * width
no_rows width = omega arith

none_text : (count n : ℕ) → flat_map cell_text (cells_for count n []) ≡ u32s_text (replicate (n * suc count) 0)
none_text count zero = ap (λ k. u32s_text (replicate k 0)) (no_rows (suc count))
none_text count (suc n) =
    ap (λ (xs : List ℕ). u32s_text (replicate (suc count) 0) ++ xs) (none_text count n)
    ∙ (zeros_join (suc count) (n * suc count) ∙ ap (λ k. u32s_text (replicate k 0)) (rows n (suc count)))

pub cells_text : (count n : ℕ) (offers : List OpenOffer) → length offers ≤ n
    → flat_map cell_text (cells_for count n offers) ≡ flat_map cell_text offers ++ u32s_text (replicate ((n - length offers) * (1 + count)) 0)
cells_text count n [] few =
    let all : n ≡ n - 0 = omega arith in
    let width : suc count ≡ 1 + count = omega arith in
    none_text count n ∙ λ i. u32s_text (replicate (all i * width i) 0)
cells_text count zero (o ∷ offers) few = absurd (omega (arith, few))
cells_text count (suc n) (o ∷ offers) few =
    let zeros : ℕ → List ℕ = λ k. u32s_text (replicate (k * (1 + count)) 0) in
    let fewer : n - length offers ≡ suc n - suc (length offers) = omega arith in
    ap (λ (xs : List ℕ). cell_text o ++ xs) (cells_text count n offers (omega (arith, few)))
    ∙ (sym (append_assoc (cell_text o) (flat_map cell_text offers) (zeros (n - length offers)))
    ∙ ap (λ (k : ℕ). (cell_text o ++ flat_map cell_text offers) ++ zeros k) fewer)
