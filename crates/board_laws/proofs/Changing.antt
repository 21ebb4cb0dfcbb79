-- What stays of a board under every change, and what becomes of a user's pointers.
use Rattle.std.proofs.Common.{◌≡◌, ◌⊎◌, ⊎_elim, ℕ, zero, suc, ◌+◌, ◌-◌, ◌<◌, Bool, true, false, cond, eqb, List, [], ◌∷◌, length, length-set, get_or, set, Option, Some, None, refl, sym, ap, ◌∙◌, subst, inl, inr, arith}
use Rattle.std.specs.Prelude.{All, option_and_then, option_map, slice_get}
use Rattle.std.specs.List.{AllZip}
use Rattle.std.proofs.lemmas.Bool.{cond-false, ltb-true, ne_eqb}
use Rattle.std.proofs.lemmas.List.{length-map}
use Rattle.std.proofs.lemmas.Option.{none-some, slice_get-get_or, slice_get_past}
use Rattle.post_changes.proofs.board_changes.MemberLaws.{ids_below, readers_at}
use Rattle.post_changes.specs.board_changes.Changed.{base_at, joined_from, with_base}
use Rattle.board_layout.specs.Board.{Board, conferences_in}
use Rattle.board_layout.specs.Lookups.{pointer_at, user_of}
use Rattle.board_layout.specs.Renewed.{contents_of}
use Rattle.board_laws.proofs.Bases.{BaseGrows, appended_grows, appended_pointer, base_itself, deleted_grows, joined_grows, joined_pointer, pointer_in, read_grows, read_pointer_other, read_pointer_own}
use Rattle.board_laws.proofs.Grown.{IsWhole, Suits, conferences_are, read_contents, zip_back, zipped}
use Rattle.board_laws.proofs.OpenOffers.{ack_is, after_ack}
use Rattle.board_laws.proofs.Readers.{PointerFollows, pointer_below}
use Rattle.board_laws.proofs.Users.{same_ledger}
use Rattle.board_ledger.specs.declared.ledger.Ledger.{Ledger}
use Rattle.open_offers.specs.declared.offer.OpenOffer.{OpenOffer}
use Rattle.board_ledger.specs.declared.user.User.{User}
use Rattle.jam_base.specs.Contents.{Contents, with_acknowledged}
use Rattle.jam_layout.specs.declared.conference.ConferenceContents.{ConferenceContents}
use Rattle.jam_layout.specs.declared.reader.Reader.{Reader}
use Rattle.cmd_messages.specs.mail_board.Changes.{changed}
use Rattle.cmd_messages.specs.mail_board.declared.change.Change.{Change}
use Rattle.cmd_messages.specs.mail_board.declared.change.Change.TheVariants.{Enroll, Append, Spread, Kill, Offer, Acknowledge, Upload}
use Rattle.offer_changes.proofs.ReadLaws.{all_count as read_count}
use Rattle.offer_changes.specs.Changed.{all_read, for_user, is_high_above, offer_in, offered_to, read_up_to}
use Rattle.cmd_messages.specs.packet_verdicts.Views.{nobody}
use Rattle.post_changes.proofs.PostLaws.{all_count as posted_count}
use Rattle.post_changes.specs.Posted.{all_posted}

-- the setup stays
pub setup_stays : (change : Change) (b : Board) → (changed change b).ledger.setup ≡ b.ledger.setup
setup_stays (Enroll name net members) b = refl
setup_stays (Append place messages) b = ap (λ (l : Ledger). l.setup) (same_ledger place _ b)
setup_stays (Spread posts) b = refl
setup_stays (Kill place number) b = ap (λ (l : Ledger). l.setup) (same_ledger place _ b)
setup_stays (Offer user highs) b = by (user_of user b)
  where
    by : (o : Option User) → (for_user (offered_to user highs) o b).ledger.setup ≡ b.ledger.setup
    by None = refl
    by (Some u) = refl
setup_stays (Acknowledge user packet now) b = after_ack (λ (c : Board). c.ledger.setup ≡ b.ledger.setup) user packet now b refl (λ u here o. refl)
setup_stays (Upload user digest refused posts) b = refl

joined_places : (members place : ℕ) (conferences : List ConferenceContents) → length (joined_from members place conferences) ≡ length conferences
joined_places members place [] = refl
joined_places members place (c ∷ conferences) = ap suc (joined_places members (place + 1) conferences)

module _ (b : Board) (whole : IsWhole b) where
  -- ---- there is a conference for each of the setup
  -- as many conferences as bases that were there
  conferences_count : (bases : List Contents) → length bases ≡ length (contents_of b) → length (conferences_in bases) ≡ length b.ledger.setup.conferences
  conferences_count bases same =
      length-map bases (λ (base : Contents). base.conference)
      ∙ (same ∙ (sym (length-map (contents_of b) (λ (base : Contents). base.conference)) ∙ (ap (length {A = ConferenceContents}) (conferences_are b whole) ∙ whole.count)))

  pub one_count : (place : ℕ) (f : Contents → Contents) (o : Option Contents) → length (with_base place (option_map f o) b).conferences ≡ length (with_base place (option_map f o) b).ledger.setup.conferences
  one_count place f None = whole.count
  one_count place f (Some base) = conferences_count (set (contents_of b) place (f base)) (length-set (contents_of b) place (f base))

  count_next : (change : Change) → length (changed change b).conferences ≡ length (changed change b).ledger.setup.conferences
  count_next (Enroll name net members) = joined_places members 0 b.conferences ∙ whole.count
  count_next (Append place messages) = one_count place _ (base_at place b)
  count_next (Spread posts) = conferences_count (all_posted b posts 0 (contents_of b)) (posted_count b posts 0 (contents_of b))
  count_next (Kill place number) = one_count place _ (base_at place b)
  count_next (Offer user highs) = by (user_of user b)
    where
      by : (o : Option User) → length (for_user (offered_to user highs) o b).conferences ≡ length (for_user (offered_to user highs) o b).ledger.setup.conferences
      by None = whole.count
      by (Some u) = whole.count
  count_next (Acknowledge user packet now) = after_ack (λ (c : Board). length c.conferences ≡ length c.ledger.setup.conferences) user packet now b whole.count
      (λ u here o. conferences_count (all_read user u.name now (contents_of b) o.highs) (read_count user u.name now (contents_of b) o.highs))
  count_next (Upload user digest refused posts) = conferences_count (all_posted b posts 0 (contents_of b)) (posted_count b posts 0 (contents_of b))

  -- ---- each base grows
  grows : (change : Change) → Suits b whole BaseGrows base_itself change
  grows (Enroll name net members) = λ x even. joined_grows (1 + length b.ledger.users) name x
  grows (Append place messages) = appended_grows
  grows (Spread posts) = appended_grows
  grows (Kill place number) = λ x live. deleted_grows number x live
  grows (Offer user highs) = tt
  grows (Acknowledge user packet now) = λ name high x. read_grows user name high now x
  grows (Upload user digest refused posts) = appended_grows

  pub bases_grow : (change : Change) → AllZip BaseGrows (contents_of b) (contents_of (changed change b))
  bases_grow change = zipped b whole BaseGrows base_itself change (grows change)

  pub whole_next : (change : Change) → IsWhole (changed change b)
  whole_next change = record {
    count = count_next change;
    even = λ place y here.
        let x = zip_back BaseGrows (contents_of b) (contents_of (changed change b)) place y (bases_grow change) here in
        let grown = x.2 in
        grown.even (whole.even place x.0 x.1);
  }

  -- ---- the pointers of a user
  module _ (id : ℕ) where
    abbrev pub Follows : Contents → Contents → Type 0
    Follows x y = PointerFollows (user_of id b ≡ None) (pointer_in id x) (pointer_in id y)

    -- the change is an acknowledgement by the user
    abbrev pub AcksBy : Change → Type 0
    AcksBy (Enroll name net members) = ⊥
    AcksBy (Append place messages) = ⊥
    AcksBy (Spread posts) = ⊥
    AcksBy (Kill place number) = ⊥
    AcksBy (Offer user highs) = ⊥
    AcksBy (Acknowledge user packet now) = user ≡ id
    AcksBy (Upload user digest refused posts) = ⊥

    -- there is no user whose id is above the count of all
    no_user : 1 + length b.ledger.users ≡ id → user_of id b ≡ None
    no_user is =
        cond-false (eqb id 0) None (slice_get b.ledger.users (id - 1)) (ne_eqb id 0 (λ none. omega (arith, is, none)))
        ∙ slice_get_past b.ledger.users (id - 1) (omega (arith, is))

    pub itself : (x : Contents) → Follows x x
    itself x = inl refl

    follows : (change : Change) → (AcksBy change → ⊥) → Suits b whole Follows itself change
    follows (Enroll name net members) apart = λ x even. ⊎_elim (λ same. inl same) (λ new. inr (new.0, new.1, no_user new.2)) (joined_pointer id (1 + length b.ledger.users) name x even)
    follows (Append place messages) apart = λ ms x. inl (appended_pointer id ms x)
    follows (Spread posts) apart = λ ms x. inl (appended_pointer id ms x)
    follows (Kill place number) apart = λ x live. inl refl
    follows (Offer user highs) apart = tt
    follows (Acknowledge user packet now) apart = λ name high x. inl (read_pointer_other user name high now x id (λ same. apart (sym same)))
    follows (Upload user digest refused posts) apart = λ ms x. inl (appended_pointer id ms x)

    pub at_place : (xs ys : List Contents) (place : ℕ) → AllZip Follows xs ys → PointerFollows (user_of id b ≡ None) (option_and_then (pointer_in id) (slice_get xs place)) (option_and_then (pointer_in id) (slice_get ys place))
    at_place [] [] place zip = inl refl
    at_place [] (y ∷ ys) place zip = absurd zip
    at_place (x ∷ xs) [] place zip = absurd zip
    at_place (x ∷ xs) (y ∷ ys) zero zip = zip.0
    at_place (x ∷ xs) (y ∷ ys) (suc place) zip = at_place xs ys place zip.1

    -- each stays, unless the user acknowledges a packet
    pub pointers_follow : (change : Change) → (AcksBy change → ⊥) → (place : ℕ) → PointerFollows (user_of id b ≡ None) (pointer_at place id b) (pointer_at place id (changed change b))
    pointers_follow change apart place = at_place (contents_of b) (contents_of (changed change b)) place (zipped b whole Follows itself change (follows change apart))

    -- ---- his own acknowledgement
    -- a pointer stays, or there was one below the high and it goes to it
    abbrev pub Reads : ℕ → Option ℕ → Option ℕ → Type 0
    Reads high old new = (new ≡ old) ⊎ ((pointer : ℕ) × (old ≡ Some pointer) × (pointer < high) × (new ≡ Some high))

    module _ (now : ℕ) (name : List ℕ) where
      one_read : (high : ℕ) (x : Contents) → Reads high (pointer_in id x) (pointer_in id (read_up_to id name now high x))
      one_read high x = by (is_high_above high (pointer_in id x)) refl
        where
          own : (o : Option ℕ) → pointer_in id x ≡ o → is_high_above high o ≡ true → Reads high (pointer_in id x) (pointer_in id (with_acknowledged id name high now x))
          own None none above = inl (read_pointer_own id name high now x ∙ (ap (option_map (λ _. high)) none ∙ sym none))
          own (Some p) some above = inr (p, some, ltb-true p high above, read_pointer_own id name high now x ∙ ap (option_map (λ _. high)) some)

          by : (above : Bool) → is_high_above high (pointer_in id x) ≡ above → Reads high (pointer_in id x) (pointer_in id (cond above (with_acknowledged id name high now x) x))
          by true above = own (pointer_in id x) refl above
          by false above = inl refl

      read_place : (bases : List Contents) (highs : List ℕ) (place : ℕ)
          → Reads (get_or highs place 0) (option_and_then (pointer_in id) (slice_get bases place)) (option_and_then (pointer_in id) (slice_get (all_read id name now bases highs) place))
      read_place [] highs place = inl refl
      read_place (x ∷ bases) [] place = inl refl
      read_place (x ∷ bases) (high ∷ highs) zero = one_read high x
      read_place (x ∷ bases) (high ∷ highs) (suc place) = read_place bases highs place

    pub pointers_read : (packet now : ℕ) (u : User) (o : OpenOffer) → user_of id b ≡ Some u → offer_in packet u.offers ≡ Some o
        → (place : ℕ) → Reads (get_or o.highs place 0) (pointer_at place id b) (pointer_at place id (changed (Acknowledge id packet now) b))
    pointers_read packet now u o here found place =
        subst (λ (c : Board). Reads (get_or o.highs place 0) (pointer_at place id b) (pointer_at place id c)) (sym (ack_is id packet now b u o here found))
        (subst (λ (bases : List Contents). Reads (get_or o.highs place 0) (pointer_at place id b) (option_and_then (pointer_in id) (slice_get bases place))) (sym (read_contents b whole id now u o here))
        (read_place now u.name (contents_of b) o.highs place))

-- ---- who has a pointer
-- a pointer is that of a user who is there
pub known_user : (b : Board) (id place pointer : ℕ) → 0 < id → pointer_at place id b ≡ Some pointer → (u : User) × (user_of id b ≡ Some u)
known_user b id place pointer above is = by (slice_get (contents_of b) place) refl is
  where
    there : id < 1 + length b.ledger.users → (u : User) × (user_of id b ≡ Some u)
    there less =
        let found : slice_get b.ledger.users (id - 1) ≡ Some (get_or b.ledger.users (id - 1) nobody) = slice_get-get_or b.ledger.users (id - 1) nobody (omega (arith, above, less)) in
        (get_or b.ledger.users (id - 1) nobody, cond-false (eqb id 0) None (slice_get b.ledger.users (id - 1)) (ne_eqb id 0 (λ none. omega (arith, above, none))) ∙ found)

    by : (o : Option Contents) → slice_get (contents_of b) place ≡ o → option_and_then (pointer_in id) o ≡ Some pointer → (u : User) × (user_of id b ≡ Some u)
    by None none found = absurd (none-some pointer found)
    by (Some base) here found =
        let below : All (λ (r : Reader). r.id < 1 + length b.ledger.users) base.shape.readers =
        subst (λ (rs : List Reader). All (λ (r : Reader). r.id < 1 + length b.ledger.users) rs) (sym (readers_at b place base here)) (ids_below place 1 (1 + length b.ledger.users) b.ledger.users (omega arith)) in
        there (pointer_below id (1 + length b.ledger.users) base.shape.readers base.conference.pointers pointer below found)
