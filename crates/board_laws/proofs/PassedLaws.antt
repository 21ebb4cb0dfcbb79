-- What a user has behind him was offered to him and acknowledged by him: deed by deed.
use Rattle.std.proofs.Common.{◌≡◌, ◌⊎◌, inl, inr, ⊎_elim, ℕ, suc, ◌+◌, ◌<◌, ◌≤◌, true, List, get_or, length, Some, None, sym, ap, ◌∙◌, subst, arith}
use Rattle.std.specs.Prelude.{Contains, slice_get}
use Rattle.std.proofs.lemmas.Bool.{cases_eq, cases_lt}
use Rattle.std.proofs.lemmas.Option.{none-some, same_Some}
use Rattle.post_changes.specs.board_changes.Changed.{made}
use Rattle.cmd_messages.specs.cmd_board.State.{State, NotMade}
use Rattle.board_layout.specs.Board.{Board}
use Rattle.board_layout.specs.Lookups.{pointer_at, user_of, slots_in}
use Rattle.board_laws.proofs.Changing.{Reads, known_user, pointers_read}
use Rattle.board_laws.proofs.Fresh.{fresh_whole, no_pointer_there, nobody_there}
use Rattle.board_laws.proofs.Grown.{IsWhole}
use Rattle.board_laws.proofs.Moves.{AcksIn, Makes, Move, OffersIn, Packs, bases_moved, moved, offers_moved, pointers_moved, setup_moved, users_moved, whole_moved}
use Rattle.board_laws.proofs.Offers.{highs_within, offered_up_to}
use Rattle.board_laws.proofs.OpenOffers.{IsOffered, IsOpenOf, made_or_there, offer_there, open_user}
use Rattle.board_laws.proofs.Readers.{PointerFollows}
use Rattle.board_laws.proofs.Sequences.{AreCommands, everywhere}
use Rattle.board_laws.proofs.Slots.{slots_count}
use Rattle.board_laws.proofs.Turns.{Because, BecauseOf, Exporting}
use Rattle.board_laws.proofs.Users.{offered_there}
use Rattle.board_laws.proofs.Views.{seen_user, seen_within, sees_back, slots_follow}
use Rattle.board_laws.specs.BoardCommand.{BoardCommand}
use Rattle.board_laws.specs.History.{Deed, LeadsTo, Steps}
use Rattle.board_laws.specs.Kept.{IsAck}
use Rattle.board_laws.specs.Passed.{IsAcknowledged, IsExport, IsPassed}
use Rattle.open_offers.specs.declared.offer.OpenOffer.{OpenOffer}
use Rattle.board_ledger.specs.declared.user.User.{User}
use Rattle.cmd_messages.specs.mail_board.declared.change.Change.TheVariants.{Enroll, Append, Spread, Kill, Offer, Acknowledge, Upload}
use Rattle.offer_changes.proofs.UserLaws.{id_above}
use Rattle.offered_packets.specs.Offered.{highs, offered}
use Rattle.offered_packets.specs.Sees.{sees}
use Rattle.offered_packets.specs.declared.offered_message.OfferedMessage.{OfferedMessage}
use Rattle.setup_file.specs.declared.fields.SetupFields.{SetupFields}

-- ---- one change, or a pack
module _ (b : Board) (whole : IsWhole b) (move : Move) where
  -- the slots of a place are at least as many
  more_slots : (place : ℕ) → length (slots_in b place) ≤ length (slots_in (moved move b) place)
  more_slots place = slots_count (slots_in b place) (slots_in (moved move b) place) (slots_follow b (moved move b) whole (whole_moved b whole move) (bases_moved b whole move) place)

  -- what the user sees in a slot that was there he saw
  saw : (id place number : ℕ) (u : User) → user_of id b ≡ Some u → number ≤ length (slots_in b place) → sees (moved move b) id place number ≡ true → sees b id place number ≡ true
  saw id place number u there within seen =
      sees_back b (moved move b) id (setup_moved move b) (users_moved id b move) place (slots_follow b (moved move b) whole (whole_moved b whole move) (bases_moved b whole move) place) number u there within seen

  -- a pointer other than 0 was there, unless the user acknowledges a packet
  pointer_was : (id place pointer : ℕ) → (AcksIn b whole id move → ⊥) → 0 < pointer → pointer_at place id (moved move b) ≡ Some pointer → pointer_at place id b ≡ Some pointer
  pointer_was id place pointer apart some is = by (pointers_moved b whole id move apart place)
    where
      by : PointerFollows (user_of id b ≡ None) (pointer_at place id b) (pointer_at place id (moved move b)) → pointer_at place id b ≡ Some pointer
      by (inl same) = sym same ∙ is
      by (inr (none, first, nobody)) = absurd (omega (arith, some, same_Some 0 pointer (sym first ∙ is)))

  -- any pointer was, of a user who was there
  own_pointer_was : (id place pointer : ℕ) (u : User) → user_of id b ≡ Some u → (AcksIn b whole id move → ⊥) → pointer_at place id (moved move b) ≡ Some pointer → pointer_at place id b ≡ Some pointer
  own_pointer_was id place pointer u there apart is = by (pointers_moved b whole id move apart place)
    where
      by : PointerFollows (user_of id b ≡ None) (pointer_at place id b) (pointer_at place id (moved move b)) → pointer_at place id b ≡ Some pointer
      by (inl same) = sym same ∙ is
      by (inr (none, first, nobody)) = absurd (none-some u (sym nobody ∙ there))

-- it is an acknowledgement of the user, or isn't
acks_or_not : (b : Board) (whole : IsWhole b) (id : ℕ) (move : Move) → ((packet now : ℕ) × (move ≡ Makes (Acknowledge id packet now))) ⊎ (AcksIn b whole id move → ⊥)
acks_or_not b whole id (Makes (Enroll name net members)) = inr (λ own. own)
acks_or_not b whole id (Makes (Append place messages)) = inr (λ own. own)
acks_or_not b whole id (Makes (Spread posts)) = inr (λ own. own)
acks_or_not b whole id (Makes (Kill place number)) = inr (λ own. own)
acks_or_not b whole id (Makes (Offer user given)) = inr (λ own. own)
acks_or_not b whole id (Makes (Acknowledge user packet now)) = ⊎_elim (λ same. inl (packet, now, ap (λ (n : ℕ). Makes (Acknowledge n packet now)) same)) (λ other. inr (λ own. other own)) (cases_eq user id)
acks_or_not b whole id (Makes (Upload user digest refused posts)) = inr (λ own. own)
acks_or_not b whole id (Packs place) = inr (λ own. own)

-- it is an offer to the user, or isn't
offers_or_not : (id : ℕ) (b : Board) (move : Move) → ((given : List ℕ) × (move ≡ Makes (Offer id given))) ⊎ (OffersIn id b move → ⊥)
offers_or_not id b (Makes (Enroll name net members)) = inr (λ own. own)
offers_or_not id b (Makes (Append place messages)) = inr (λ own. own)
offers_or_not id b (Makes (Spread posts)) = inr (λ own. own)
offers_or_not id b (Makes (Kill place number)) = inr (λ own. own)
offers_or_not id b (Makes (Offer user given)) = ⊎_elim (λ same. inl (given, ap (λ (n : ℕ). Makes (Offer n given)) same)) (λ other. inr (λ own. other own)) (cases_eq user id)
offers_or_not id b (Makes (Acknowledge user packet now)) = inr (λ own. own)
offers_or_not id b (Makes (Upload user digest refused posts)) = inr (λ own. own)
offers_or_not id b (Packs place) = inr (λ own. own)

module _ {Entry : Type 0} (command_of : Entry → BoardCommand) (start : State) (deeds : List (Deed Entry)) where
  -- Before place n the packet of an offer was exported to the user, with all that he sees between his pointers and its
  -- highs.
  record WasExported (n : ℕ) (b : Board) (id : ℕ) (o : OpenOffer) : Type 0 where
    place : ℕ
    before : place < n
    export : IsExport command_of start deeds place id o.number
    within : (k : ℕ) → get_or o.highs k 0 ≤ length (slots_in b k)
    has : (k number pointer : ℕ) → sees b id k number ≡ true → pointer_at k id b ≡ Some pointer → pointer < number → number ≤ get_or o.highs k 0 → Contains (offered export.board id export.limit) (record { place = k; number = number })

  -- what holds of a board after the first n deeds
  record IsAccounted (n : ℕ) (b : Board) : Type 0 where
    whole : IsWhole b
    pointers : (id place pointer : ℕ) → pointer_at place id b ≡ Some pointer → pointer ≤ length (slots_in b place)
    offers : (id : ℕ) (o : OpenOffer) → IsOpenOf o (user_of id b) → WasExported n b id o
    passed : (id place number pointer : ℕ) → sees b id place number ≡ true → pointer_at place id b ≡ Some pointer → number ≤ pointer → IsAcknowledged command_of start deeds n id (record { place = place; number = number })

  -- ---- one deed more
  acknowledged_more : (n id : ℕ) (m : OfferedMessage) → IsAcknowledged command_of start deeds n id m → IsAcknowledged command_of start deeds (suc n) id m
  acknowledged_more n id m is = let before = is.before in record {
    exported = is.exported;
    acknowledged = is.acknowledged;
    packet = is.packet;
    export = is.export;
    offers = is.offers;
    first = is.first;
    ack = is.ack;
    before = omega (arith, before);
  }

  exported_more : (n : ℕ) (b : Board) (id : ℕ) (o : OpenOffer) → WasExported n b id o → WasExported (suc n) b id o
  exported_more n b id o was = let before = was.before in record { place = was.place; before = omega (arith, before); export = was.export; within = was.within; has = was.has }

  idle : (n : ℕ) (b : Board) → IsAccounted n b → IsAccounted (suc n) b
  idle n b holds = record {
    whole = holds.whole;
    pointers = holds.pointers;
    offers = λ id o is. exported_more n b id o (holds.offers id o is);
    passed = λ id place number pointer seen is upto. acknowledged_more n id (record { place = place; number = number }) (holds.passed id place number pointer seen is upto);
  }

  fresh : (n : ℕ) (setup : SetupFields) (now : ℕ) → IsAccounted (suc n) (made setup now)
  fresh n setup now = record {
    whole = fresh_whole setup now;
    pointers = λ id place pointer is. absurd (no_pointer_there setup now place id pointer is);
    offers = λ id o is. let u = open_user o (user_of id (made setup now)) is in absurd (none-some u.0 (sym (nobody_there setup now id) ∙ u.1));
    passed = λ id place number pointer seen is upto. absurd (no_pointer_there setup now place id pointer is);
  }

  -- ---- a change
  module _ (n : ℕ) (d : Deed Entry) (b : Board) (there : slice_get deeds n ≡ Some d) (board : LeadsTo start deeds n b) (holds : IsAccounted n b) where
    -- what the user saw up to his pointer he acknowledged
    still_passed : (move : Move) (id place number pointer : ℕ) (u : User) → user_of id b ≡ Some u → sees (moved move b) id place number ≡ true → pointer_at place id b ≡ Some pointer → number ≤ pointer
        → IsAcknowledged command_of start deeds (suc n) id (record { place = place; number = number })
    still_passed move id place number pointer u user seen is upto =
        let within : number ≤ length (slots_in b place) = omega (arith, upto, holds.pointers id place pointer is) in
        acknowledged_more n id (record { place = place; number = number }) (holds.passed id place number pointer (saw b holds.whole move id place number u user within seen) is upto)

    -- ---- no acknowledgement of the user
    module _ (move : Move) (id : ℕ) (apart : AcksIn b holds.whole id move → ⊥) where
      pointers_apart : (place pointer : ℕ) → pointer_at place id (moved move b) ≡ Some pointer → pointer ≤ length (slots_in (moved move b) place)
      pointers_apart place pointer is = by (pointers_moved b holds.whole id move apart place)
        where
          by : PointerFollows (user_of id b ≡ None) (pointer_at place id b) (pointer_at place id (moved move b)) → pointer ≤ length (slots_in (moved move b) place)
          by (inl same) = omega (arith, holds.pointers id place pointer (sym same ∙ is), more_slots b holds.whole move place)
          by (inr (none, first, nobody)) = omega (arith, same_Some 0 pointer (sym first ∙ is))

      passed_apart : (place number pointer : ℕ) → sees (moved move b) id place number ≡ true → pointer_at place id (moved move b) ≡ Some pointer → number ≤ pointer → IsAcknowledged command_of start deeds (suc n) id (record { place = place; number = number })
      passed_apart place number pointer seen is upto =
          let some = (seen_within (moved move b) id place number seen).0 in
          let was : pointer_at place id b ≡ Some pointer = pointer_was b holds.whole move id place pointer apart (omega (arith, some, upto)) is in
          let v = seen_user (moved move b) id place number seen in
          let u = known_user b id place pointer (id_above (moved move b) id v.0 v.1) was in
          still_passed move id place number pointer u.0 u.1 seen was upto

      -- an offer that stays
      offer_apart : (o : OpenOffer) (u : User) → user_of id b ≡ Some u → WasExported n b id o → WasExported (suc n) (moved move b) id o
      offer_apart o u user was = let before = was.before in record {
        place = was.place;
        before = omega (arith, before);
        export = was.export;
        within = λ k. omega (arith, was.within k, more_slots b holds.whole move k);
        has = λ k number pointer seen is above upto.
            let within : number ≤ length (slots_in b k) = omega (arith, upto, was.within k) in
            was.has k number pointer (saw b holds.whole move id k number u user within seen) (own_pointer_was b holds.whole move id k pointer u user apart is) above upto;
      }

      offers_apart : (OffersIn id b move → ⊥) → (o : OpenOffer) → IsOpenOf o (user_of id (moved move b)) → WasExported (suc n) (moved move b) id o
      offers_apart other o is =
          let was : IsOpenOf o (user_of id b) = offers_moved id b move other o is in
          let u = open_user o (user_of id b) was in
          offer_apart o u.0 u.1 (holds.offers id o was)

    -- ---- a packet exported to the user
    module _ (id : ℕ) (given : List ℕ) (because : Exporting d.now b (command_of d.entry) d.stepped.class id given) where
      new_offer : WasExported (suc n) (moved (Makes (Offer id given)) b) id (record { number = because.u.last + 1; highs = given })
      new_offer = record {
        place = n;
        before = omega arith;
        export = record {
          deed = d;
          board = b;
          carried = record { there = there; board_is = board; done = because.done };
          name = because.name;
          limit = because.limit;
          folder = because.folder;
          command = because.command;
          user_is = because.user_is;
          handout = because.handout;
          export = because.export;
          packet_is = because.packet_is;
        };
        within = λ k. omega (arith, high k, highs_within b id because.limit k, more_slots b holds.whole (Makes (Offer id given)) k);
        has = λ k number pointer seen is above upto.
            let within : number ≤ length (slots_in b k) = omega (arith, upto, high k, highs_within b id because.limit k) in
            let saw_it : sees b id k number ≡ true = saw b holds.whole (Makes (Offer id given)) id k number because.u because.there within seen in
            let was : pointer_at k id b ≡ Some pointer = own_pointer_was b holds.whole (Makes (Offer id given)) id k pointer because.u because.there (λ own. own) is in
            offered_up_to b id because.limit (record { place = k; number = number }) (record { pointer = pointer; there = was; above = above; seen = saw_it }) (omega (arith, upto, high k));
      }
        where
          high : (k : ℕ) → get_or given k 0 ≡ get_or (highs b (offered b id because.limit)) k 0
          high k = ap (λ (hs : List ℕ). get_or hs k 0) because.highs_are

      -- the offers that he has then
      offers_given : (o : OpenOffer) → IsOpenOf o (user_of id (moved (Makes (Offer id given)) b)) → WasExported (suc n) (moved (Makes (Offer id given)) b) id o
      offers_given o is = ⊎_elim
          (λ was. offer_apart (Makes (Offer id given)) id (λ own. own) o because.u because.there (holds.offers id o (subst (IsOpenOf o) (sym because.there) was)))
          (λ same. subst (WasExported (suc n) (moved (Makes (Offer id given)) b) id) same new_offer)
          (made_or_there given because.u o (subst (IsOpenOf o) (offered_there id b given because.u because.there) is))

    -- ---- a packet acknowledged by the user
    module _ (id packet now : ℕ) (ack : IsAck command_of start deeds n id packet) (held : IsOffered id packet b) where
      -- the board after it
      abbrev after_it : Board
      after_it = moved (Makes (Acknowledge id packet now)) b

      was : WasExported n b id held.offer
      was = holds.offers id held.offer held.among

      -- a pointer stays, or goes to the high
      abbrev Read : ℕ → Type 0
      Read place = Reads b holds.whole id (get_or held.offer.highs place 0) (pointer_at place id b) (pointer_at place id after_it)

      read : (place : ℕ) → Read place
      read = pointers_read b holds.whole id packet now held.u held.offer held.user held.found

      more : (place : ℕ) → length (slots_in b place) ≤ length (slots_in after_it place)
      more = more_slots b holds.whole (Makes (Acknowledge id packet now))

      saw_before : (place number : ℕ) → number ≤ length (slots_in b place) → sees after_it id place number ≡ true → sees b id place number ≡ true
      saw_before place number within seen = saw b holds.whole (Makes (Acknowledge id packet now)) id place number held.u held.user within seen

      pointers_own : (place pointer : ℕ) → pointer_at place id after_it ≡ Some pointer → pointer ≤ length (slots_in after_it place)
      pointers_own place pointer is = by (read place)
        where
          by : Read place → pointer ≤ length (slots_in after_it place)
          by (inl same) = omega (arith, holds.pointers id place pointer (sym same ∙ is), more place)
          by (inr (q, old, less, new)) = omega (arith, same_Some (get_or held.offer.highs place 0) pointer (sym new ∙ is), was.within place, more place)

      newly : (place number pointer : ℕ) → sees after_it id place number ≡ true → pointer_at place id b ≡ Some pointer → pointer < number → number ≤ get_or held.offer.highs place 0
          → IsAcknowledged command_of start deeds (suc n) id (record { place = place; number = number })
      newly place number pointer seen is above upto =
          let within : number ≤ length (slots_in b place) = omega (arith, upto, was.within place) in
          record {
            exported = was.place;
            acknowledged = n;
            packet = packet;
            export = record {
              deed = was.export.deed;
              board = was.export.board;
              carried = was.export.carried;
              name = was.export.name;
              limit = was.export.limit;
              folder = was.export.folder;
              command = was.export.command;
              user_is = was.export.user_is;
              handout = was.export.handout;
              export = was.export.export;
              packet_is = was.export.packet_is ∙ held.number;
            };
            offers = was.has place number pointer (saw_before place number within seen) is above upto;
            first = was.before;
            ack = ack;
            before = omega arith;
          }

      passed_own : (place number pointer : ℕ) → sees after_it id place number ≡ true → pointer_at place id after_it ≡ Some pointer → number ≤ pointer → IsAcknowledged command_of start deeds (suc n) id (record { place = place; number = number })
      passed_own place number pointer seen is upto = by (read place)
        where
          by : Read place → IsAcknowledged command_of start deeds (suc n) id (record { place = place; number = number })
          by (inl same) = still_passed (Makes (Acknowledge id packet now)) id place number pointer held.u held.user seen (sym same ∙ is) upto
          by (inr (q, old, less, new)) = ⊎_elim
              (λ above. newly place number q seen old above (omega (arith, upto, same_Some (get_or held.offer.highs place 0) pointer (sym new ∙ is))))
              (λ behind. still_passed (Makes (Acknowledge id packet now)) id place number q held.u held.user seen old behind)
              (cases_lt q number)

      -- no pointer goes back
      not_back : (place pointer : ℕ) → pointer_at place id after_it ≡ Some pointer → (q : ℕ) × (pointer_at place id b ≡ Some q) × (q ≤ pointer)
      not_back place pointer is = by (read place)
        where
          by : Read place → (q : ℕ) × (pointer_at place id b ≡ Some q) × (q ≤ pointer)
          by (inl same) = (pointer, sym same ∙ is, omega arith)
          by (inr (q, old, less, new)) = (q, old, omega (arith, less, same_Some (get_or held.offer.highs place 0) pointer (sym new ∙ is)))

      -- so another offer has all that he still sees between his pointers and its highs
      other_offer : (o : OpenOffer) → WasExported n b id o → WasExported (suc n) after_it id o
      other_offer o exported = let before = exported.before in record {
        place = exported.place;
        before = omega (arith, before);
        export = exported.export;
        within = λ k. omega (arith, exported.within k, more k);
        has = λ k number pointer seen is above upto.
            let within : number ≤ length (slots_in b k) = omega (arith, upto, exported.within k) in
            let q = not_back k pointer is in
            exported.has k number q.0 (saw_before k number within seen) q.1 (omega (arith, above, q.2)) upto;
      }

      offers_own : (o : OpenOffer) → IsOpenOf o (user_of id after_it) → WasExported (suc n) after_it id o
      offers_own o is = other_offer o (holds.offers id o (offers_moved id b (Makes (Acknowledge id packet now)) (λ own. own) o is))

    -- ---- any change, for one user
    -- what holds of a user of the board after it
    record Accounts (move : Move) (id : ℕ) : Type 0 where
      pointers : (place pointer : ℕ) → pointer_at place id (moved move b) ≡ Some pointer → pointer ≤ length (slots_in (moved move b) place)
      offers : (o : OpenOffer) → IsOpenOf o (user_of id (moved move b)) → WasExported (suc n) (moved move b) id o
      passed : (place number pointer : ℕ) → sees (moved move b) id place number ≡ true → pointer_at place id (moved move b) ≡ Some pointer → number ≤ pointer → IsAcknowledged command_of start deeds (suc n) id (record { place = place; number = number })

    accounts_own : (id packet now : ℕ) → Because d.now b (command_of d.entry) d.stepped.class (Acknowledge id packet now) → Accounts (Makes (Acknowledge id packet now)) id
    accounts_own id packet now because =
        let ack : IsAck command_of start deeds n id packet = record { deed = d; board = b; carried = record { there = there; board_is = board; done = because.done }; name = because.name; command = because.command; user_is = because.user_is } in
        let offered : IsOffered id packet b = offer_there id packet b because.offer in
        record { pointers = pointers_own id packet now ack offered; offers = offers_own id packet now ack offered; passed = passed_own id packet now ack offered }

    accounts_offer : (id : ℕ) (given : List ℕ) → Because d.now b (command_of d.entry) d.stepped.class (Offer id given) → Accounts (Makes (Offer id given)) id
    accounts_offer id given because = record {
      pointers = pointers_apart (Makes (Offer id given)) id (λ own. own);
      offers = offers_given id given because;
      passed = passed_apart (Makes (Offer id given)) id (λ own. own);
    }

    accounts : (move : Move) (id : ℕ) → BecauseOf d.now b (command_of d.entry) d.stepped.class move → Accounts move id
    accounts move id because = by (acks_or_not b holds.whole id move) (offers_or_not id b move)
      where
        by : ((packet now : ℕ) × (move ≡ Makes (Acknowledge id packet now))) ⊎ (AcksIn b holds.whole id move → ⊥) → ((given : List ℕ) × (move ≡ Makes (Offer id given))) ⊎ (OffersIn id b move → ⊥) → Accounts move id
        by (inl (packet, now, is)) offers = subst (λ (x : Move). Accounts x id) (sym is) (accounts_own id packet now (subst (BecauseOf d.now b (command_of d.entry) d.stepped.class) is because))
        by (inr apart) (inl (given, is)) = subst (λ (x : Move). Accounts x id) (sym is) (accounts_offer id given (subst (BecauseOf d.now b (command_of d.entry) d.stepped.class) is because))
        by (inr apart) (inr other) = record { pointers = pointers_apart move id apart; offers = offers_apart move id apart other; passed = passed_apart move id apart }

    next : (move : Move) → BecauseOf d.now b (command_of d.entry) d.stepped.class move → IsAccounted (suc n) (moved move b)
    next move because = record {
      whole = whole_moved b holds.whole move;
      pointers = λ id. let own = accounts move id because in own.pointers;
      offers = λ id. let own = accounts move id because in own.offers;
      passed = λ id. let own = accounts move id because in own.passed;
    }

-- ---- the law
module _ {Entry : Type 0} (command_of : Entry → BoardCommand) (Step : Steps Entry) (commands : AreCommands command_of Step) where
  pub is_passed : IsPassed command_of Step
  is_passed deeds are n b board user m seen pointer is upto =
      let holds = everywhere command_of Step commands NotMade deeds are (IsAccounted command_of NotMade deeds) tt (λ c ok none. absurd (cc none)) (fresh command_of NotMade deeds)
      (λ k d c move there here because so_far. next command_of NotMade deeds k d c there here so_far move because) (idle command_of NotMade deeds) n b board in
      holds.passed user m.place m.number pointer seen is upto
