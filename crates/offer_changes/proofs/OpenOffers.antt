-- The open offers of a user with one more, and without one: they are few, their numbers rise, and what holds of each still does.
use Rattle.std.proofs.Common.{◌≡◌, ℕ, ◌+◌, ◌-◌, ◌≤◌, Bool, true, false, not, cond, eqb, List, [], ◌∷◌, ◌++◌, length, drop, Some, refl, sym, ap, ◌∙◌, subst, arith, length-append, length-drop}
use Rattle.std.specs.Prelude.{zero, suc, All}
use Rattle.std.proofs.lemmas.Bool.{eqb-true}
use Rattle.std.proofs.lemmas.List.{drop-append-le}
use Rattle.std.proofs.lemmas.List.Elements.{All-append, All-cons, All-drop, All-filter, All-head, All-nil, All-tail}
use Rattle.std.proofs.lemmas.List.Sums.{AllPass-from_list_all, list_all-from_AllPass}
use Rattle.std.proofs.lemmas.Option.{none-some, same_Some}
use Rattle.open_offers.specs.Offers.{AreOffers, IsOffer, NumbersRise}
use Rattle.open_offers.specs.declared.offer.OpenOffer.{OpenOffer}
use Rattle.board_layout.specs.Valid.{highs_fit, offers_fit}
use Rattle.jam_layout.specs.declared.conference.ConferenceContents.{ConferenceContents}
use Rattle.offer_changes.specs.Changed.{latest, offer_in, other_offers}

-- ---- the offer of a number
module _ (packet : ℕ) (o : OpenOffer) where
  found_number : (offers : List OpenOffer) → offer_in packet offers ≡ Some o → o.number ≡ packet
  found_number [] is = absurd (none-some o is)
  found_number (p ∷ offers) is = by (eqb p.number packet) refl is (found_number offers)
    where
      by : (here : Bool) → eqb p.number packet ≡ here → cond here (Some p) (offer_in packet offers) ≡ Some o → (offer_in packet offers ≡ Some o → o.number ≡ packet) → o.number ≡ packet
      by true same found later = ap (λ (x : OpenOffer). x.number) (sym (same_Some p o found)) ∙ eqb-true p.number packet same
      by false same found later = later found

  pub found_itself : (offers : List OpenOffer) → offer_in packet offers ≡ Some o → offer_in o.number offers ≡ Some o
  found_itself offers is = subst (λ (n : ℕ). offer_in n offers ≡ Some o) (sym (found_number offers is)) is

  pub found_all : (P : OpenOffer → Type 0) (offers : List OpenOffer) → offer_in packet offers ≡ Some o → All P offers → P o
  found_all P [] is all = absurd (none-some o is)
  found_all P (p ∷ offers) is all = by (eqb p.number packet) is (λ found. found_all P offers found (All-tail P p offers all))
    where
      by : (here : Bool) → cond here (Some p) (offer_in packet offers) ≡ Some o → (offer_in packet offers ≡ Some o → P o) → P o
      by true found later = subst P (same_Some p o found) (All-head P p offers all)
      by false found later = later found

-- ---- numbers that rise
rise_from : (last lower before : ℕ) (offers : List OpenOffer) → lower ≤ before → NumbersRise last before offers → NumbersRise last lower offers
rise_from last lower before [] low rise = tt
rise_from last lower before (o ∷ offers) low rise = (omega (arith, low, rise.0), rise.1, rise.2)

rise_drop : (last before n : ℕ) (offers : List OpenOffer) → NumbersRise last before offers → NumbersRise last before (drop n offers)
rise_drop last before zero offers rise = rise
rise_drop last before (suc n) [] rise = tt
rise_drop last before (suc n) (o ∷ offers) rise = rise_drop last before n offers (rise_from last before o.number offers (omega (arith, rise.0)) rise.2)

rise_more : (last before : ℕ) (offers : List OpenOffer) (o : OpenOffer) → o.number ≡ last + 1 → before ≤ last → NumbersRise last before offers → NumbersRise (last + 1) before (offers ++ o ∷ [])
rise_more last before [] o is most rise = (omega (arith, is, most), omega (arith, is), tt)
rise_more last before (p ∷ offers) o is most rise = (rise.0, omega (arith, rise.1), rise_more last p.number offers o is (omega (arith, rise.1)) rise.2)

-- ---- one more
module _ (P : OpenOffer → Type 0) (offers : List OpenOffer) (o : OpenOffer) where
  pub latest_all : All P offers → P o → All P (latest (offers ++ o ∷ []))
  latest_all all one = All-drop P (length (offers ++ o ∷ []) - 4) (offers ++ o ∷ []) (All-append P offers (o ∷ []) all (All-cons P o [] one (All-nil P)))

  behind : (kept : List OpenOffer) → All P (kept ++ o ∷ []) → P o
  behind [] all = All-head P o [] all
  behind (p ∷ kept) all = behind kept (All-tail P p (kept ++ o ∷ []) all)

  -- it is one of them
  pub latest_has : All P (latest (offers ++ o ∷ [])) → P o
  latest_has all =
      let n : ℕ = length (offers ++ o ∷ []) - 4 in
      behind (drop n offers) (subst (All P) (drop-append-le n offers (o ∷ []) (omega (arith, length-append offers (o ∷ [])))) all)

-- the latest three, and one more
pub latest_is : (offers : List OpenOffer) (o : OpenOffer) → drop (length offers - 3) offers ++ o ∷ [] ≡ latest (offers ++ o ∷ [])
latest_is offers o =
    let n : ℕ = length (offers ++ o ∷ []) - 4 in
    let same : length offers - 3 ≡ n = omega (arith, length-append offers (o ∷ [])) in
    ap (λ (k : ℕ). drop k offers ++ o ∷ []) same ∙ sym (drop-append-le n offers (o ∷ []) (omega (arith, length-append offers (o ∷ []))))

pub offers_more : (count members last : ℕ) (offers : List OpenOffer) (o : OpenOffer) → o.number ≡ last + 1 → AreOffers count members last offers → IsOffer count members o → AreOffers count members (last + 1) (latest (offers ++ o ∷ []))
offers_more count members last offers o is ok one = record {
  few = omega (arith, length-drop (length (offers ++ o ∷ []) - 4) (offers ++ o ∷ []));
  each = latest_all (IsOffer count members) offers o ok.each one;
  rise = rise_drop (last + 1) 0 (length (offers ++ o ∷ []) - 4) (offers ++ o ∷ []) (rise_more last 0 offers o is (omega arith) ok.rise);
}

-- ---- one less
module _ (packet : ℕ) where
  others_few : (offers : List OpenOffer) → length (other_offers packet offers) ≤ length offers
  others_few [] = omega arith
  others_few (o ∷ offers) = by (eqb o.number packet) (others_few offers)
    where
      by : (here : Bool) → length (other_offers packet offers) ≤ length offers → length (cond (not here) (o ∷ other_offers packet offers) (other_offers packet offers)) ≤ length (o ∷ offers)
      by true few = omega (arith, few)
      by false few = omega (arith, few)

  others_rise : (last before : ℕ) (offers : List OpenOffer) → NumbersRise last before offers → NumbersRise last before (other_offers packet offers)
  others_rise last before [] rise = tt
  others_rise last before (o ∷ offers) rise = by (eqb o.number packet) (others_rise last o.number offers rise.2)
    where
      by : (here : Bool) → NumbersRise last o.number (other_offers packet offers) → NumbersRise last before (cond (not here) (o ∷ other_offers packet offers) (other_offers packet offers))
      by true others = rise_from last before o.number (other_offers packet offers) (omega (arith, rise.0)) others
      by false others = (rise.0, rise.1, others)

  pub others_all : (P : OpenOffer → Type 0) (offers : List OpenOffer) → All P offers → All P (other_offers packet offers)
  others_all P offers all = All-filter (λ o. not (eqb o.number packet)) P offers all

  pub offers_less : (count members last : ℕ) (offers : List OpenOffer) → AreOffers count members last offers → AreOffers count members last (other_offers packet offers)
  offers_less count members last offers ok = record {
    few = omega (arith, ok.few, others_few offers);
    each = others_all (IsOffer count members) offers ok.each;
    rise = others_rise last 0 offers ok.rise;
  }

-- ---- their highs on a board
abbrev HighsFit : List ConferenceContents → OpenOffer → Type 0
HighsFit conferences o = highs_fit conferences o.highs ≡ true

module _ (conferences : List ConferenceContents) where
  each_fits : (offers : List OpenOffer) → offers_fit conferences offers ≡ true → All (HighsFit conferences) offers
  each_fits offers fit = AllPass-from_list_all (λ o. highs_fit conferences o.highs) offers fit

  all_fit : (offers : List OpenOffer) → All (HighsFit conferences) offers → offers_fit conferences offers ≡ true
  all_fit offers each = list_all-from_AllPass (λ o. highs_fit conferences o.highs) offers each

  pub found_fits : (packet : ℕ) (offers : List OpenOffer) (o : OpenOffer) → offer_in packet offers ≡ Some o → offers_fit conferences offers ≡ true → highs_fit conferences o.highs ≡ true
  found_fits packet offers o is fit = found_all packet o (HighsFit conferences) offers is (each_fits offers fit)

  pub latest_fit : (offers : List OpenOffer) (o : OpenOffer) → offers_fit conferences offers ≡ true → highs_fit conferences o.highs ≡ true → offers_fit conferences (latest (offers ++ o ∷ [])) ≡ true
  latest_fit offers o fit one = all_fit (latest (offers ++ o ∷ [])) (latest_all (HighsFit conferences) offers o (each_fits offers fit) one)

  pub new_fits : (offers : List OpenOffer) (o : OpenOffer) → offers_fit conferences (latest (offers ++ o ∷ [])) ≡ true → highs_fit conferences o.highs ≡ true
  new_fits offers o fit = latest_has (HighsFit conferences) offers o (each_fits (latest (offers ++ o ∷ [])) fit)

  pub others_fit : (packet : ℕ) (offers : List OpenOffer) → offers_fit conferences offers ≡ true → offers_fit conferences (other_offers packet offers) ≡ true
  others_fit packet offers fit = all_fit (other_offers packet offers) (others_all packet (HighsFit conferences) offers (each_fits offers fit))
