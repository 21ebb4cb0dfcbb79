-- The highs of what a user is offered are such as he may have.
use Rattle.std.proofs.Common.{◌≡◌, ℕ, zero, suc, ◌+◌, ◌≤◌, max, Bool, true, false, not, ◌&&◌, ◌||◌, eqb, List, [], ◌∷◌, length, map, Option, Some, None, refl, sym, ap, ◌∙◌, subst, inl, inr, arith}
use Rattle.std.specs.Prelude.{nat_le, option_map, slice_get, unwrap_or}
use Rattle.std.specs.List.{All, filter, fold, range_with_len}
use Rattle.std.proofs.lemmas.Bool.{and_from, and_parts, cases_eq, cond-false, cond-true, eq-eqb, false≢true, le-leb, ne_eqb}
use Rattle.std.proofs.lemmas.List.Elements.{All-head, All-tail, All-take, filter_passes}
use Rattle.std.proofs.lemmas.List.FromFn.{length-map-range_with_len}
use Rattle.std.proofs.lemmas.Option.{none-some}
use Rattle.board_layout.specs.Board.{Board}
use Rattle.board_layout.specs.Lookups.{pointer_at, user_of, slots_in, message_at}
use Rattle.board_layout.specs.Valid.{IsBoard, highs_fit}
use Rattle.board_ledger.specs.Users.{is_member}
use Rattle.board_ledger.specs.declared.ledger.Ledger.{Ledger}
use Rattle.board_ledger.specs.declared.user.User.{User}
use Rattle.jam_base.specs.Slots.{has_live}
use Rattle.jam_layout.specs.declared.conference.ConferenceContents.{ConferenceContents}
use Rattle.jam_records.specs.declared.message.Message.{Message}
use Rattle.mail_board.specs.offer_changes.Highs.{may_have}
use Rattle.open_offers.specs.Offers.{are_of_member}
use Rattle.offered_packets.proofs.ShownMessages.{is_there}
use Rattle.offered_packets.specs.Offered.{all_numbers, high_of, highs, is_above, is_new, offered}
use Rattle.offered_packets.specs.Sees.{is_allowed, is_sysop, names_user, sees}
use Rattle.offered_packets.specs.declared.offered_message.OfferedMessage.{OfferedMessage}

-- ---- one message that is new to a user
abbrev is_at : ℕ → OfferedMessage → Bool
is_at place m = eqb m.place place

abbrev numbers_at : ℕ → List OfferedMessage → List ℕ
numbers_at place messages = map (λ (m : OfferedMessage). m.number) (filter (is_at place) messages)

-- a message that a user may see is there, and he is a member of its conference
allowed_member : (l : Ledger) (place : ℕ) (o : Option User) (u : User) (m : Option Message) → o ≡ Some u → is_allowed l place o m ≡ true → (found : Message) × (m ≡ Some found) × (is_member u place ≡ true)
allowed_member l place None u m here is = absurd (none-some u here)
allowed_member l place (Some v) u None here is = absurd (false≢true is)
allowed_member l place (Some v) u (Some m) here is =
    let same : v ≡ u = cc in
    let member : is_member v place ≡ true = (and_parts (is_member v place) ((not m.private || names_user v m) || is_sysop l v) is).0 in
    (m, refl, subst (λ (w : User). is_member w place ≡ true) same member)

module _ (b : Board) (id : ℕ) (u : User) (ok : IsBoard b) (here : user_of id b ≡ Some u) where
  abbrev IsNew : OfferedMessage → Type 0
  IsNew m = is_new b id m ≡ true

  new_member : (m : OfferedMessage) → IsNew m → (found : Message) × (message_at b m.place m.number ≡ Some found) × (is_member u m.place ≡ true)
  unfolding sees
  new_member m new =
      let seen : sees b id m.place m.number ≡ true = (and_parts (is_above (pointer_at m.place id b) m.number) (sees b id m.place m.number) new).1 in
      let allowed : is_allowed b.ledger m.place (user_of id b) (message_at b m.place m.number) ≡ true
      = (and_parts (has_live m.number (slots_in b m.place)) (is_allowed b.ledger m.place (user_of id b) (message_at b m.place m.number)) seen).1 in
      allowed_member b.ledger m.place (user_of id b) u (message_at b m.place m.number) here allowed

  new_within : (m : OfferedMessage) → IsNew m → m.number ≤ length (slots_in b m.place)
  new_within m new = let found = new_member m new in (is_there b m.place m.number found.0 ok found.1).within

  -- ---- the greatest number of a place
  greatest_within : (place a : ℕ) (messages : List OfferedMessage) → All IsNew messages → a ≤ length (slots_in b place) → fold max a (numbers_at place messages) ≤ length (slots_in b place)
  greatest_within place a [] new small = small
  greatest_within place a (m ∷ messages) new small = elim (cases_eq m.place place) [
    | inl same ↦
        let kept : filter (is_at place) (m ∷ messages) ≡ m ∷ filter (is_at place) messages = cond-true (is_at place m) (m ∷ filter (is_at place) messages) (filter (is_at place) messages) (eq-eqb m.place place same) in
        let one : m.number ≤ length (slots_in b place) = subst (λ (k : ℕ). m.number ≤ length (slots_in b k)) same (new_within m (All-head IsNew m messages new)) in
        subst (λ (xs : List OfferedMessage). fold max a (map (λ (m : OfferedMessage). m.number) xs) ≤ length (slots_in b place)) (sym kept)
        (greatest_within place (max a m.number) messages (All-tail IsNew m messages new) (omega (arith, small, one)))
    | inr other ↦
        let left : filter (is_at place) (m ∷ messages) ≡ filter (is_at place) messages = cond-false (is_at place m) (m ∷ filter (is_at place) messages) (filter (is_at place) messages) (ne_eqb m.place place other) in
        subst (λ (xs : List OfferedMessage). fold max a (map (λ (m : OfferedMessage). m.number) xs) ≤ length (slots_in b place)) (sym left)
        (greatest_within place a messages (All-tail IsNew m messages new) small)
  ]

  none_outside : (place : ℕ) (messages : List OfferedMessage) → All IsNew messages → is_member u place ≡ false → filter (is_at place) messages ≡ []
  none_outside place [] new out = refl
  none_outside place (m ∷ messages) new out = elim (cases_eq m.place place) [
    | inl same ↦
        let member : is_member u place ≡ true = subst (λ (k : ℕ). is_member u k ≡ true) same (new_member m (All-head IsNew m messages new)).2 in
        absurd (false≢true (sym out ∙ member))
    | inr other ↦
        cond-false (is_at place m) (m ∷ filter (is_at place) messages) (filter (is_at place) messages) (ne_eqb m.place place other) ∙ none_outside place messages (All-tail IsNew m messages new) out
  ]

  -- ---- all places
  module _ (messages : List OfferedMessage) (new : All IsNew messages) where
    abbrev highs_from : ℕ → ℕ → List ℕ
    highs_from place count = map (high_of messages) (range_with_len place count)

    member_or_none : (place : ℕ) (member : Bool) → is_member u place ≡ member → (eqb (high_of messages place) 0 || is_member u place) ≡ true
    member_or_none place true is = (λ i. eqb (high_of messages place) 0 || is i) ∙ or_true (eqb (high_of messages place) 0)
      where
        or_true : (x : Bool) → (x || true) ≡ true
        or_true true = refl
        or_true false = refl
    member_or_none place false is =
        let none : high_of messages place ≡ 0 = ap (λ (xs : List OfferedMessage). fold max 0 (map (λ (m : OfferedMessage). m.number) xs)) (none_outside place messages new is) in
        λ i. eq-eqb (high_of messages place) 0 none i || is_member u place

    of_member : (place count : ℕ) → are_of_member u.members place (highs_from place count) ≡ true
    of_member place zero = refl
    of_member place (suc count) =
        and_from (eqb (high_of messages place) 0 || is_member u place) (are_of_member u.members (place + 1) (highs_from (place + 1) count)) (member_or_none place (is_member u place) refl) (of_member (place + 1) count)

    fit_from : (place : ℕ) (conferences : List ConferenceContents) → ((k : ℕ) (c : ConferenceContents) → slice_get conferences k ≡ Some c → slice_get b.conferences (place + k) ≡ Some c)
        → highs_fit conferences (highs_from place (length conferences)) ≡ true
    fit_from place [] there = refl
    fit_from place (c ∷ conferences) there =
        let at : slice_get b.conferences place ≡ Some c = subst (λ (k : ℕ). slice_get b.conferences k ≡ Some c) (omega arith) (there 0 c refl) in
        let slots : slots_in b place ≡ c.slots = ap (λ (o : Option ConferenceContents). unwrap_or (option_map (λ (c : ConferenceContents). c.slots) o) []) at in
        let small : high_of messages place ≤ length c.slots = subst (λ xs. high_of messages place ≤ length xs) slots (greatest_within place 0 messages new (omega arith)) in
        and_from (nat_le (high_of messages place) (length c.slots)) (highs_fit conferences (highs_from (place + 1) (length conferences))) (le-leb (high_of messages place) (length c.slots) small)
        (fit_from (place + 1) conferences (λ k d is. subst (λ (n : ℕ). slice_get b.conferences n ≡ Some d) (omega arith) (there (suc k) d is)))

    messages_may : may_have b u (highs b messages) ≡ true
    unfolding highs
    messages_may =
        let count = length b.conferences in
        and_from (eqb (length (highs_from 0 count)) count && highs_fit b.conferences (highs_from 0 count)) (are_of_member u.members 0 (highs_from 0 count))
        (and_from (eqb (length (highs_from 0 count)) count) (highs_fit b.conferences (highs_from 0 count)) (eq-eqb (length (highs_from 0 count)) count (length-map-range_with_len (high_of messages) 0 count)) (fit_from 0 b.conferences (λ k c is. subst (λ (n : ℕ). slice_get b.conferences n ≡ Some c) (omega arith) is)))
        (of_member 0 count)

  pub offer_may : (limit : ℕ) → may_have b u (highs b (offered b id limit)) ≡ true
  unfolding offered
  offer_may limit = messages_may (offered b id limit) (All-take IsNew limit (filter (is_new b id) (all_numbers b)) (filter_passes (is_new b id) (all_numbers b)))
