-- Cells for offers, and the open offers in them.
use Rattle.std.proofs.Common.{◌≡◌, ℕ, zero, suc, ◌<◌, ◌≤◌, true, ◌&&◌, eqb, ltb, leb, List, [], ◌∷◌, length, replicate, refl, sym, ap, ◌∙◌, subst, arith, inl, inr}
use Rattle.std.specs.Prelude.{All}
use Rattle.std.specs.List.{list_all}
use Rattle.std.proofs.lemmas.Bool.{cases_eq, and_parts, and_from, cond-true, cond-false, eq-eqb, ne_eqb, ltb-true, lt-ltb, leb-true, le-leb, eqb-true}
use Rattle.std.proofs.lemmas.List.{length-replicate}
use Rattle.std.proofs.lemmas.List.Elements.{All-nil, All-cons, All-head, All-tail, All-replicate}
use Rattle.record_numbers.specs.Numbers.{IsU32}
use Rattle.open_offers.specs.Offers.{cell_count, cells_for, no_offer, open_in, are_of_member, is_nothing, is_behind, is_last_packet, rise, right_cells, IsOffer, NumbersRise, AreOffers, AreOldOffers}
use Rattle.open_offers.specs.declared.offer.OpenOffer.{OpenOffer}
use Rattle.open_offers.specs.declared.version.Version.{Version}
use Rattle.open_offers.specs.declared.version.Version.TheVariants.{First, Second}

-- a cell as bytes have it: numbers of four bytes, and one high for each conference
pub record CellFits (count : ℕ) (o : OpenOffer) : Type 0 where
  pub number : IsU32 o.number
  pub many : length o.highs ≡ count
  pub small : All IsU32 o.highs

-- the cells of a record
pub record HasCells (v : Version) (count : ℕ) (cells : List OpenOffer) : Type 0 where
  pub many : length cells ≡ cell_count v
  pub each : All (CellFits count) cells

-- ---- a cell without an offer
zeros_are : (highs : List ℕ) → list_all (λ h. eqb h 0) highs ≡ true → highs ≡ replicate (length highs) 0
zeros_are [] e = refl
zeros_are (h ∷ highs) e =
    let both = and_parts (eqb h 0) (list_all (λ n. eqb n 0) highs) e in
    λ i. eqb-true h 0 both.0 i ∷ zeros_are highs both.1 i

zeros_back : (count : ℕ) → list_all (λ h. eqb h 0) (replicate count 0) ≡ true
zeros_back zero = refl
zeros_back (suc count) = zeros_back count

-- so many, all of them without one
nothing_is : (count : ℕ) (cells : List OpenOffer) → All (CellFits count) cells → list_all is_nothing cells ≡ true → cells_for count (length cells) [] ≡ cells
nothing_is count [] each e = refl
nothing_is count (o ∷ cells) each e =
    let both = and_parts (is_nothing o) (list_all is_nothing cells) e in
    let here = and_parts (eqb o.number 0) (list_all (λ h. eqb h 0) o.highs) both.0 in
    let fits = All-head (CellFits count) o cells each in
    let zeros : replicate count 0 ≡ o.highs = ap (λ n. replicate n 0) (sym fits.many) ∙ sym (zeros_are o.highs here.1) in
    let number : 0 ≡ o.number = sym (eqb-true o.number 0 here.0) in
    λ i. record { number = number i; highs = zeros i } ∷ nothing_is count cells (All-tail (CellFits count) o cells each) both.1 i

nothing_right : (count n : ℕ) → list_all is_nothing (cells_for count n []) ≡ true
nothing_right count zero = refl
nothing_right count (suc n) = and_from (list_all (λ h. eqb h 0) (replicate count 0)) (list_all is_nothing (cells_for count n [])) (zeros_back count) (nothing_right count n)

-- ---- one cell more
pub none_open : (o : OpenOffer) (cells : List OpenOffer) → o.number ≡ 0 → open_in (o ∷ cells) ≡ []
none_open o cells is = cond-true (eqb o.number 0) [] (o ∷ open_in cells) (eq-eqb o.number 0 is)

pub one_open : (o : OpenOffer) (cells : List OpenOffer) → (o.number ≡ 0 → ⊥) → open_in (o ∷ cells) ≡ o ∷ open_in cells
one_open o cells other = cond-false (eqb o.number 0) [] (o ∷ open_in cells) (ne_eqb o.number 0 other)

pub rise_none : (members last before : ℕ) (o : OpenOffer) (cells : List OpenOffer) → o.number ≡ 0 → rise members last before (o ∷ cells) ≡ list_all is_nothing (o ∷ cells)
rise_none members last before o cells is = cond-true (eqb o.number 0) _ _ (eq-eqb o.number 0 is)

pub rise_open : (members last before : ℕ) (o : OpenOffer) (cells : List OpenOffer) → (o.number ≡ 0 → ⊥)
    → rise members last before (o ∷ cells) ≡ (is_behind members last before o && rise members last o.number cells)
rise_open members last before o cells other = cond-false (eqb o.number 0) _ _ (ne_eqb o.number 0 other)

-- what a cell with an offer gives
pub record OpenHere (members last before : ℕ) (o : OpenOffer) (cells : List OpenOffer) : Type 0 where
  pub above : before < o.number
  pub most : o.number ≤ last
  pub highs : are_of_member members 0 o.highs ≡ true
  pub others : rise members last o.number cells ≡ true

open_here : (members last before : ℕ) (o : OpenOffer) (cells : List OpenOffer) → (o.number ≡ 0 → ⊥) → rise members last before (o ∷ cells) ≡ true → OpenHere members last before o cells
open_here members last before o cells other e =
    let all = and_parts (is_behind members last before o) (rise members last o.number cells) (sym (rise_open members last before o cells other) ∙ e) in
    let one = and_parts (ltb before o.number) (leb o.number last && are_of_member members 0 o.highs) all.0 in
    let two = and_parts (leb o.number last) (are_of_member members 0 o.highs) one.1 in
    record { above = ltb-true before o.number one.0; most = leb-true o.number last two.0; highs = two.1; others = all.1 }

-- ---- what is read of cells is written so
module _ (count members last : ℕ) where
  written : (before : ℕ) (cells : List OpenOffer) → All (CellFits count) cells → rise members last before cells ≡ true → cells_for count (length cells) (open_in cells) ≡ cells
  written before [] each e = refl
  written before (o ∷ cells) each e = elim (cases_eq o.number 0) [
    | inl is ↦ ap (cells_for count (suc (length cells))) (none_open o cells is) ∙ nothing_is count (o ∷ cells) each (sym (rise_none members last before o cells is) ∙ e)
    | inr other ↦
        let here = open_here members last before o cells other e in
        ap (cells_for count (suc (length cells))) (one_open o cells other) ∙ ap (λ os. o ∷ os) (written o.number cells (All-tail (CellFits count) o cells each) here.others)
  ]

  read_rise : (before : ℕ) (cells : List OpenOffer) → rise members last before cells ≡ true → NumbersRise last before (open_in cells)
  read_rise before [] e = tt
  read_rise before (o ∷ cells) e = elim (cases_eq o.number 0) [
    | inl is ↦ subst (NumbersRise last before) (sym (none_open o cells is)) tt
    | inr other ↦
        let here = open_here members last before o cells other e in
        subst (NumbersRise last before) (sym (one_open o cells other)) (here.above, here.most, read_rise o.number cells here.others)
  ]

  read_each : (before : ℕ) (cells : List OpenOffer) → All (CellFits count) cells → rise members last before cells ≡ true → All (IsOffer count members) (open_in cells)
  read_each before [] each e = All-nil (IsOffer count members)
  read_each before (o ∷ cells) each e = elim (cases_eq o.number 0) [
    | inl is ↦ subst (All (IsOffer count members)) (sym (none_open o cells is)) (All-nil (IsOffer count members))
    | inr other ↦
        let here = open_here members last before o cells other e in
        let fits = All-head (CellFits count) o cells each in
        subst (All (IsOffer count members)) (sym (one_open o cells other))
        (All-cons (IsOffer count members) o (open_in cells) (record { one_high_each = fits.many; highs = fits.small; of_member = here.highs })
        (read_each o.number cells (All-tail (CellFits count) o cells each) here.others))
  ]

  read_few : (cells : List OpenOffer) → length (open_in cells) ≤ length cells
  read_few [] = omega arith
  read_few (o ∷ cells) = elim (cases_eq o.number 0) [
    | inl is ↦ let none : length (open_in (o ∷ cells)) ≡ 0 = ap length (none_open o cells is) in omega (arith, none)
    | inr other ↦ let more : length (open_in (o ∷ cells)) ≡ suc (length (open_in cells)) = ap length (one_open o cells other) in omega (arith, more, read_few cells)
  ]

  read_last : (cells : List OpenOffer) → is_last_packet last cells ≡ true → is_last_packet last (open_in cells) ≡ true
  read_last [] e = refl
  read_last (o ∷ cells) e = elim (cases_eq o.number 0) [
    | inl is ↦ ap (is_last_packet last) (none_open o cells is)
    | inr other ↦ ap (is_last_packet last) (one_open o cells other) ∙ e
  ]

  -- ---- what is written of offers is read so
  again : (before n : ℕ) (offers : List OpenOffer) → length offers ≤ n → NumbersRise last before offers → open_in (cells_for count n offers) ≡ offers
  again before zero [] few rises = refl
  again before (suc n) [] few rises = refl
  again before zero (o ∷ offers) few rises = absurd (omega (arith, few))
  again before (suc n) (o ∷ offers) few rises =
      one_open o (cells_for count n offers) (λ is. omega (arith, is, rises.0)) ∙ ap (λ os. o ∷ os) (again o.number n offers (omega (arith, few)) rises.2)

  right : (before n : ℕ) (offers : List OpenOffer) → All (IsOffer count members) offers → NumbersRise last before offers → rise members last before (cells_for count n offers) ≡ true
  right before zero offers each rises = refl
  right before (suc n) [] each rises = nothing_right count (suc n)
  right before (suc n) (o ∷ offers) each rises =
      let here = All-head (IsOffer count members) o offers each in
      rise_open members last before o (cells_for count n offers) (λ is. omega (arith, is, rises.0))
      ∙ and_from (is_behind members last before o) (rise members last o.number (cells_for count n offers))
      (and_from (ltb before o.number) (leb o.number last && are_of_member members 0 o.highs) (lt-ltb before o.number rises.0)
      (and_from (leb o.number last) (are_of_member members 0 o.highs) (le-leb o.number last rises.1) here.of_member))
      (right o.number n offers (All-tail (IsOffer count members) o offers each) rises.2)

  right_last : (n : ℕ) (offers : List OpenOffer) → is_last_packet last offers ≡ true → is_last_packet last (cells_for count n offers) ≡ true
  right_last zero offers e = refl
  right_last (suc n) [] e = refl
  right_last (suc n) (o ∷ offers) e = e

-- ---- the cells of offers
pub for_count : (count n : ℕ) (offers : List OpenOffer) → length (cells_for count n offers) ≡ n
for_count count zero offers = refl
for_count count (suc n) [] = ap suc (for_count count n [])
for_count count (suc n) (o ∷ offers) = ap suc (for_count count n offers)

pub for_all : (P : OpenOffer → Type 0) (count : ℕ) → P (no_offer count) → (n : ℕ) (offers : List OpenOffer) → All P offers → All P (cells_for count n offers)
for_all P count none zero offers each = All-nil P
for_all P count none (suc n) [] each = All-cons P (no_offer count) (cells_for count n []) none (for_all P count none n [] each)
for_all P count none (suc n) (o ∷ offers) each =
    All-cons P o (cells_for count n offers) (All-head P o offers each) (for_all P count none n offers (All-tail P o offers each))

none_fits : (count : ℕ) → CellFits count (no_offer count)
none_fits count = record { number = omega arith; many = length-replicate count 0; small = All-replicate IsU32 count 0 (omega arith) }

offers_fit : (count members last before : ℕ) (offers : List OpenOffer) → IsU32 last → All (IsOffer count members) offers → NumbersRise last before offers → All (CellFits count) offers
offers_fit count members last before [] small each rises = All-nil (CellFits count)
offers_fit count members last before (o ∷ offers) small each rises =
    let here = All-head (IsOffer count members) o offers each in
    All-cons (CellFits count) o offers (record { number = omega (arith, small, rises.1); many = here.one_high_each; small = here.highs })
    (offers_fit count members last o.number offers small (All-tail (IsOffer count members) o offers each) rises.2)

pub has_cells : (v : Version) (count members last : ℕ) (offers : List OpenOffer) → IsU32 last → AreOffers count members last offers → HasCells v count (cells_for count (cell_count v) offers)
has_cells v count members last offers small ok = record {
  many = for_count count (cell_count v) offers;
  each = for_all (CellFits count) count (none_fits count) (cell_count v) offers (offers_fit count members last 0 offers small ok.each ok.rise);
}

-- ---- both versions
few_cells : (v : Version) → cell_count v ≤ 4
few_cells First = omega arith
few_cells Second = omega arith

rises_in : (v : Version) (members last : ℕ) (cells : List OpenOffer) → right_cells v members last cells ≡ true → rise members last 0 cells ≡ true
rises_in First members last cells e = (and_parts (rise members last 0 cells) (is_last_packet last cells) e).0
rises_in Second members last cells e = e

last_in : (v : Version) (members last : ℕ) (cells : List OpenOffer) → right_cells v members last cells ≡ true → v ≡ First → is_last_packet last cells ≡ true
last_in First members last cells e is = (and_parts (rise members last 0 cells) (is_last_packet last cells) e).1
last_in Second members last cells e is = absurd (cc is)

pub read_offers : (v : Version) (count members last : ℕ) (cells : List OpenOffer) → HasCells v count cells → right_cells v members last cells ≡ true → AreOffers count members last (open_in cells)
read_offers v count members last cells has e = record {
  few = omega (arith, read_few count members last cells, has.many, few_cells v);
  each = read_each count members last 0 cells has.each (rises_in v members last cells e);
  rise = read_rise count members last 0 cells (rises_in v members last cells e);
}

pub read_old : (v : Version) (count members last : ℕ) (cells : List OpenOffer) → HasCells v count cells → right_cells v members last cells ≡ true → v ≡ First → AreOldOffers last (open_in cells)
read_old v count members last cells has e is = record {
  few = omega (arith, read_few count members last cells, has.many, ap cell_count is);
  of_last = read_last count members last cells (last_in v members last cells e is);
}

pub written_cells : (v : Version) (count members last : ℕ) (cells : List OpenOffer) → HasCells v count cells → right_cells v members last cells ≡ true → cells_for count (cell_count v) (open_in cells) ≡ cells
written_cells v count members last cells has e =
    ap (λ n. cells_for count n (open_in cells)) (sym has.many) ∙ written count members last 0 cells has.each (rises_in v members last cells e)

few_in : (v : Version) (count members last : ℕ) (offers : List OpenOffer) → AreOffers count members last offers → (v ≡ First → AreOldOffers last offers) → length offers ≤ cell_count v
few_in First count members last offers ok old = (old refl).few
few_in Second count members last offers ok old = ok.few

pub offers_again : (v : Version) (count members last : ℕ) (offers : List OpenOffer) → AreOffers count members last offers → (v ≡ First → AreOldOffers last offers) → open_in (cells_for count (cell_count v) offers) ≡ offers
offers_again v count members last offers ok old = again count members last 0 (cell_count v) offers (few_in v count members last offers ok old) ok.rise

pub right_again : (v : Version) (count members last : ℕ) (offers : List OpenOffer) → AreOffers count members last offers → (v ≡ First → AreOldOffers last offers) → right_cells v members last (cells_for count (cell_count v) offers) ≡ true
right_again First count members last offers ok old = and_from _ _ (right count members last 0 1 offers ok.each ok.rise) (right_last count members last 1 offers (old refl).of_last)
right_again Second count members last offers ok old = right count members last 0 4 offers ok.each ok.rise
