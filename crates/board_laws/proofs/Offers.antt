-- Which messages an offered list has, and the greatest numbers in it.
use Rattle.std.proofs.Common.{◌≡◌, ◌⊎◌, inl, inr, ⊎_elim, ℕ, zero, suc, ◌+◌, ◌<◌, ◌≤◌, true, eqb, List, [], ◌∷◌, length, length-append, map, get_or, take, Option, Some, None, refl, sym, ap, ◌∙◌, subst, arith}
use Rattle.std.specs.Prelude.{Contains, option_map, slice_get, sum_by, unwrap_or}
use Rattle.std.specs.List.{filter, flat_map, range_with_len}
use Rattle.std.proofs.lemmas.Bool.{and_from, and_parts, cases_lt, eqb-true, false≢true, lt-ltb, ltb-true}
use Rattle.std.proofs.lemmas.List.{get_or_past, take_all}
use Rattle.std.proofs.lemmas.List.FromFn.{get_or-map-range_with_len, length-map-range_with_len}
use Rattle.std.proofs.lemmas.List.Sums.{sum_by-cons}
use Rattle.std.proofs.lemmas.Option.{slice_get_past}
use Rattle.board_layout.specs.Board.{Board}
use Rattle.board_layout.specs.Lookups.{pointer_at, slots_in}
use Rattle.board_laws.proofs.Elements.{AreRising, In, among_first, contains_in, filter_short, from_filter, from_flat, from_map, from_range, from_take, greatest_reached, in_contains, in_filter, in_flat, in_map, in_range, rising_append, rising_filter}
use Rattle.board_laws.proofs.Views.{seen_within}
use Rattle.jam_layout.specs.declared.conference.ConferenceContents.{ConferenceContents}
use Rattle.jam_records.specs.declared.message.Slot.{Slot}
use Rattle.offered_packets.specs.Offered.{all_numbers, high_of, highs, is_above, is_new, numbers_in, offered}
use Rattle.offered_packets.specs.Sees.{sees}
use Rattle.offered_packets.specs.declared.offered_message.OfferedMessage.{OfferedMessage}

-- ---- a message that is new to a user
-- its number is above a pointer, and he sees it
pub record IsNew (b : Board) (id : ℕ) (m : OfferedMessage) : Type 0 where
  pub pointer : ℕ
  pub there : pointer_at m.place id b ≡ Some pointer
  pub above : pointer < m.number
  pub seen : sees b id m.place m.number ≡ true

above_there : (o : Option ℕ) (number : ℕ) → is_above o number ≡ true → (pointer : ℕ) × (o ≡ Some pointer) × (pointer < number)
above_there None number is = absurd (false≢true is)
above_there (Some pointer) number is = (pointer, refl, ltb-true pointer number is)

pub new_is : (b : Board) (id : ℕ) (m : OfferedMessage) → is_new b id m ≡ true → IsNew b id m
new_is b id m new =
    let parts = and_parts (is_above (pointer_at m.place id b) m.number) (sees b id m.place m.number) new in
    let found = above_there (pointer_at m.place id b) m.number parts.0 in
    record { pointer = found.0; there = found.1; above = found.2; seen = parts.1 }

pub is_new_from : (b : Board) (id : ℕ) (m : OfferedMessage) → IsNew b id m → is_new b id m ≡ true
is_new_from b id m new =
    let above : is_above (pointer_at m.place id b) m.number ≡ true = ap (λ (o : Option ℕ). is_above o m.number) new.there ∙ lt-ltb new.pointer m.number new.above in
    and_from (is_above (pointer_at m.place id b) m.number) (sees b id m.place m.number) above new.seen

-- it is no number of the same place, or a smaller one
abbrev IsBelow : OfferedMessage → OfferedMessage → Type 0
IsBelow x y = x.place ≡ y.place → x.number < y.number

-- ---- all numbers of a board
module _ (b : Board) where
  -- a place that has slots is there
  place_there : (place : ℕ) → 0 < length (slots_in b place) → place < length b.conferences
  place_there place some = elim (cases_lt place (length b.conferences)) [
    | inl within ↦ within
    | inr past ↦
        let none : slots_in b place ≡ [] = ap (λ (o : Option ConferenceContents). unwrap_or (option_map (λ (c : ConferenceContents). c.slots) o) []) (slice_get_past b.conferences place past) in
        absurd (omega (arith, some, ap (length {A = Slot}) none))
  ]

  pub number_there : (m : OfferedMessage) → 0 < m.number → m.number ≤ length (slots_in b m.place) → In m (all_numbers b)
  number_there m some within =
      let place : In m.place (range_with_len 0 (length b.conferences)) = in_range 0 (length b.conferences) m.place (omega arith) (omega (arith, place_there m.place (omega (arith, some, within)))) in
      let number : In m.number (range_with_len 1 (length (slots_in b m.place))) = in_range 1 (length (slots_in b m.place)) m.number (omega (arith, some)) (omega (arith, within)) in
      in_flat (numbers_in b) m.place m (range_with_len 0 (length b.conferences)) place (in_map (λ (n : ℕ). record { place = m.place; number = n }) m.number (range_with_len 1 (length (slots_in b m.place))) number)

  -- ---- as many as there are slots
  numbers_count : (place : ℕ) (conferences : List ConferenceContents) → ((k : ℕ) (c : ConferenceContents) → slice_get conferences k ≡ Some c → slice_get b.conferences (place + k) ≡ Some c)
      → length (flat_map (numbers_in b) (range_with_len place (length conferences))) ≡ sum_by (λ c. length c.slots) conferences
  numbers_count place [] there = refl
  numbers_count place (c ∷ conferences) there =
      let same : place + 0 ≡ place = omega arith in
      let at : slice_get b.conferences place ≡ Some c = subst (λ (k : ℕ). slice_get b.conferences k ≡ Some c) same (there 0 c refl) in
      let slots : slots_in b place ≡ c.slots = ap (λ (o : Option ConferenceContents). unwrap_or (option_map (λ (c : ConferenceContents). c.slots) o) []) at in
      let others = numbers_count (place + 1) conferences (λ k d is. subst (λ (n : ℕ). slice_get b.conferences n ≡ Some d) (next k) (there (suc k) d is)) in
      omega (
        arith,
        length-append (numbers_in b place) (flat_map (numbers_in b) (range_with_len (place + 1) (length conferences))),
        length-map-range_with_len {X = OfferedMessage} (λ (n : ℕ). record { place = place; number = n }) 1 (length (slots_in b place)),
        ap (length {A = Slot}) slots,
        others,
        sum_by-cons (λ (d : ConferenceContents). length d.slots) c conferences,
      )
    where
      next : (k : ℕ) → place + suc k ≡ place + 1 + k
      next k = omega arith

  pub all_count : length (all_numbers b) ≡ sum_by (λ c. length c.slots) b.conferences
  all_count = numbers_count 0 b.conferences (λ k c is. subst (λ (n : ℕ). slice_get b.conferences n ≡ Some c) (first k) is)
    where
      first : (k : ℕ) → k ≡ 0 + k
      first k = omega arith

  -- ---- they rise in each place
  numbers_rise : (place first count : ℕ) → AreRising IsBelow (map (λ n. record { place = place; number = n }) (range_with_len first count))
  numbers_rise place first zero = tt
  numbers_rise place first (suc count) = (λ y is same. above y (from_map (λ (n : ℕ). record { place = place; number = n }) y (range_with_len (first + 1) count) is), numbers_rise place (first + 1) count)
    where
      above : (y : OfferedMessage) → (n : ℕ) × (record { place = place; number = n } ≡ y) × In n (range_with_len (first + 1) count) → first < y.number
      above y (n, is, within) =
          let bounds = from_range (first + 1) count n within in
          let number : n ≡ y.number = ap (λ (m : OfferedMessage). m.number) is in
          omega (arith, bounds.0, number)

  in_place : (place : ℕ) (y : OfferedMessage) → In y (numbers_in b place) → y.place ≡ place
  in_place place y is =
      let found = from_map (λ (n : ℕ). record { place = place; number = n }) y (range_with_len 1 (length (slots_in b place))) is in
      sym (ap (λ (m : OfferedMessage). m.place) found.1)

  places_rise : (place count : ℕ) → AreRising IsBelow (flat_map (numbers_in b) (range_with_len place count))
  places_rise place zero = tt
  places_rise place (suc count) =
      rising_append IsBelow (numbers_in b place) (flat_map (numbers_in b) (range_with_len (place + 1) count)) (numbers_rise place 1 (length (slots_in b place))) (places_rise (place + 1) count)
      (λ x y here behind same. absurd (apart x y (in_place place x here) (from_flat (numbers_in b) y (range_with_len (place + 1) count) behind) same))
    where
      apart : (x y : OfferedMessage) → x.place ≡ place → (k : ℕ) × In k (range_with_len (place + 1) count) × In y (numbers_in b k) → x.place ≡ y.place → ⊥
      apart x y here (k, within, is) same =
          let bounds = from_range (place + 1) count k within in
          omega (arith, bounds.0, in_place k y is, same, here)

-- ---- the offered list
module _ (b : Board) (id limit : ℕ) where
  pub offered_new : (m : OfferedMessage) → Contains (offered b id limit) m → IsNew b id m
  unfolding offered
  offered_new m has =
      let first : In m (take limit (filter (is_new b id) (all_numbers b))) = contains_in m (offered b id limit) has in
      new_is b id m (from_filter (is_new b id) m (all_numbers b) (from_take limit m (filter (is_new b id) (all_numbers b)) first)).1

  new_there : (m : OfferedMessage) → IsNew b id m → In m (filter (is_new b id) (all_numbers b))
  new_there m new =
      let within = seen_within b id m.place m.number new.seen in
      in_filter (is_new b id) m (all_numbers b) (number_there b m within.0 within.1) (is_new_from b id m new)

  -- all that is new is offered, where the limit is at least the count of all slots
  pub all_offered : (m : OfferedMessage) → IsNew b id m → sum_by (λ c. length c.slots) b.conferences ≤ limit → Contains (offered b id limit) m
  unfolding offered
  all_offered m new most =
      let short : length (filter (is_new b id) (all_numbers b)) ≤ limit = omega (arith, filter_short (is_new b id) (all_numbers b), all_count b, most) in
      in_contains m (take limit (filter (is_new b id) (all_numbers b))) (subst (In m) (sym (take_all limit (filter (is_new b id) (all_numbers b)) short)) (new_there m new))

  -- ---- the greatest number of a place
  -- it is 0, or that of a message that is offered
  greatest : (place : ℕ) (messages : List OfferedMessage) → (high_of messages place ≡ 0) ⊎ ((y : OfferedMessage) × In y messages × (y.place ≡ place) × (y.number ≡ high_of messages place))
  greatest place messages = by (greatest_reached 0 (map (λ (m : OfferedMessage). m.number) (filter (λ (m : OfferedMessage). eqb m.place place) messages)))
    where
      by : (high_of messages place ≡ 0) ⊎ In (high_of messages place) (map (λ (m : OfferedMessage). m.number) (filter (λ (m : OfferedMessage). eqb m.place place) messages))
          → (high_of messages place ≡ 0) ⊎ ((y : OfferedMessage) × In y messages × (y.place ≡ place) × (y.number ≡ high_of messages place))
      by (inl none) = inl none
      by (inr there) =
          let y = from_map (λ (m : OfferedMessage). m.number) (high_of messages place) (filter (λ (m : OfferedMessage). eqb m.place place) messages) there in
          let passes = from_filter (λ (m : OfferedMessage). eqb m.place place) y.0 messages y.2 in
          let at = y.0 in
          inr (y.0, passes.0, eqb-true at.place place passes.1, y.1)

  high_at : (place : ℕ) → (get_or (highs b (offered b id limit)) place 0 ≡ 0) ⊎ ((y : OfferedMessage) × In y (offered b id limit) × (y.place ≡ place) × (y.number ≡ get_or (highs b (offered b id limit)) place 0))
  unfolding highs
  high_at place = elim (cases_lt place (length b.conferences)) [
    | inl within ↦
        let is : get_or (map (high_of (offered b id limit)) (range_with_len 0 (length b.conferences))) place 0 ≡ high_of (offered b id limit) place =
        get_or-map-range_with_len (high_of (offered b id limit)) 0 (length b.conferences) place place 0 within (omega arith) in
        ⊎_elim (λ none. inl (is ∙ none)) (λ y. inr (y.0, y.1, y.2, y.3 ∙ sym is)) (greatest place (offered b id limit))
    | inr past ↦
        inl (get_or_past (map (high_of (offered b id limit)) (range_with_len 0 (length b.conferences))) place 0 (omega (arith, past, length-map-range_with_len (high_of (offered b id limit)) 0 (length b.conferences))))
  ]

  pub highs_within : (place : ℕ) → get_or (highs b (offered b id limit)) place 0 ≤ length (slots_in b place)
  highs_within place = by (high_at place)
    where
      by : (get_or (highs b (offered b id limit)) place 0 ≡ 0) ⊎ ((y : OfferedMessage) × In y (offered b id limit) × (y.place ≡ place) × (y.number ≡ get_or (highs b (offered b id limit)) place 0)) → get_or (highs b (offered b id limit)) place 0 ≤ length (slots_in b place)
      by (inl none) = omega (arith, none)
      by (inr (y, is, at, number)) =
          let new = offered_new y (in_contains y (offered b id limit) is) in
          let within : y.number ≤ length (slots_in b y.place) = (seen_within b id y.place y.number new.seen).1 in
          let here : y.number ≤ length (slots_in b place) = subst (λ (k : ℕ). y.number ≤ length (slots_in b k)) at within in
          omega (arith, here, number)

  -- what is new up to it is offered
  pub offered_up_to : (m : OfferedMessage) → IsNew b id m → m.number ≤ get_or (highs b (offered b id limit)) m.place 0 → Contains (offered b id limit) m
  unfolding offered
  offered_up_to m new upto = by (high_at m.place)
    where
      by : (get_or (highs b (offered b id limit)) m.place 0 ≡ 0) ⊎ ((y : OfferedMessage) × In y (offered b id limit) × (y.place ≡ m.place) × (y.number ≡ get_or (highs b (offered b id limit)) m.place 0)) → Contains (offered b id limit) m
      by (inl none) = absurd (let above = new.above in omega (arith, above, upto, none))
      by (inr (y, is, at, number)) =
          in_contains m (offered b id limit)
          (among_first IsBelow limit m y (filter (is_new b id) (all_numbers b)) (rising_filter IsBelow (is_new b id) (all_numbers b) (places_rise b 0 (length b.conferences))) (new_there m new) is
          (λ below. let less = below at in omega (arith, less, upto, number)))
