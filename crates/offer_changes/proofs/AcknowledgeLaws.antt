-- A board on which a user has acknowledged an open offer of his: it is valid, and its files are as long.
use Rattle.std.proofs.Common.{◌≡◌, ℕ, ◌-◌, ◌<◌, ◌^◌, true, List, length, get_or, refl, sym, ap, ◌∙◌, subst, arith}
use Rattle.std.specs.Prelude.{All, slice_get, Option, None, Some, option_map, unwrap_or}
use Rattle.std.specs.List.{AllZip}
use Rattle.std.proofs.lemmas.List.Elements.{All-set, All-weaker}
use Rattle.board_changes.proofs.OneBase.{all_at, are_bases, conferences_back, shapes_back}
use Rattle.board_layout.proofs.BasePlaces.{IsBase, zipped}
use Rattle.board_layout.proofs.RenewedBases.{contents_are}
use Rattle.board_layout.proofs.SizeLaws.{size_in}
use Rattle.board_layout.specs.Board.{Board, board_with, conferences_in, shapes_in, shapes_of}
use Rattle.board_layout.specs.Layout.{board_size}
use Rattle.board_layout.specs.Lookups.{user_of}
use Rattle.board_layout.specs.Renewed.{contents_of}
use Rattle.board_layout.specs.Valid.{IsBoard, highs_fit, offers_fit}
use Rattle.board_ledger.specs.UserPuts.{record_in}
use Rattle.board_ledger.specs.Users.{IsUser}
use Rattle.open_offers.specs.declared.offer.OpenOffer.{OpenOffer}
use Rattle.board_ledger.specs.declared.user.User.{User}
use Rattle.board_layout.specs.jam_base.Contents.{Contents}
use Rattle.jam_layout.specs.Valid.{IsConference}
use Rattle.jam_layout.specs.declared.conference.ConferenceContents.{ConferenceContents}
use Rattle.jam_layout.specs.declared.shape.Shape.{Shape}
use Rattle.offer_changes.proofs.LedgerLaws.{ledger_is, same_text, shapes_stay, text_stays, user_was, was_each}
use Rattle.offer_changes.proofs.OpenOffers.{found_fits, found_itself, offers_less, others_all, others_fit}
use Rattle.offer_changes.proofs.ReadLaws.{all_bases, all_count, all_offers, all_shapes, all_sizes, read_at}
use Rattle.offer_changes.proofs.UserLaws.{Alike, OneHighEach, user_there}
use Rattle.offer_changes.specs.Changed.{acknowledged, all_read, for_user, offer_in, read_by, read_offer, read_up_to, without_offer}

-- ---- the user
without_user : (count packet : ℕ) (u : User) → IsUser count u → IsUser count (without_offer packet u)
without_user count packet u ok = record {
  name = ok.name;
  members = ok.members;
  last = ok.last;
  offers = offers_less packet count u.members u.last u.offers ok.offers;
}

-- ---- the board
pub read_there : (b : Board) (id packet now : ℕ) (u : User) → user_of id b ≡ Some u → acknowledged id packet now b ≡ read_by id packet now u b
read_there b id packet now u here = ap (λ (o : Option User). for_user (read_by id packet now) o b) here

-- where there is such an offer, or none
pub read_open : (b : Board) (id packet now : ℕ) (u : User) (found : Option OpenOffer) → user_of id b ≡ Some u → offer_in packet u.offers ≡ found → acknowledged id packet now b ≡ unwrap_or (option_map (λ o. read_offer id now u o b) found) b
read_open b id packet now u found here is = read_there b id packet now u here ∙ ap (λ (f : Option OpenOffer). unwrap_or (option_map (λ (o : OpenOffer). read_offer id now u o b) f) b) is

module _ (b : Board) (id now : ℕ) (u : User) (o : OpenOffer) (here : slice_get b.ledger.users (id - 1) ≡ Some u) (ok : IsBoard b) where
  alike : Alike u (without_offer o.number u)
  alike = record { name = refl; members = refl }

  read_each : OneHighEach (length b.ledger.setup.conferences) (without_offer o.number u)
  read_each = others_all o.number (λ (p : OpenOffer). length p.highs ≡ length b.ledger.setup.conferences) u.offers (was_each b.ledger id u (without_offer o.number u) here alike ok.ledger)

  abbrev bases : List Contents
  bases = all_read id u.name now (contents_of b) o.highs

  old_shapes : shapes_in (contents_of b) ≡ shapes_of b.ledger
  old_shapes = shapes_back (shapes_of b.ledger) b.conferences ok.conferences

  old_conferences : conferences_in (contents_of b) ≡ b.conferences
  old_conferences = conferences_back (shapes_of b.ledger) b.conferences ok.conferences

  new_shapes : shapes_in bases ≡ shapes_of (read_offer id now u o b).ledger
  new_shapes = all_shapes id u.name now (contents_of b) o.highs ∙ (old_shapes ∙ sym (shapes_stay b.ledger id u (without_offer o.number u) here alike))

  pub contents_read : contents_of (read_offer id now u o b) ≡ bases
  contents_read = contents_are (read_offer id now u o b).ledger bases new_shapes

  pub contents_count : length (contents_of (read_offer id now u o b)) ≡ length (contents_of b)
  contents_count = ap (length {A = Contents}) contents_read ∙ all_count id u.name now (contents_of b) o.highs

  were_bases : All IsBase (contents_of b)
  were_bases = are_bases (shapes_of b.ledger) b.conferences ok.conferences

  offers_were : offers_fit b.conferences u.offers ≡ true
  offers_were = all_at (λ (v : User). offers_fit b.conferences v.offers ≡ true) b.ledger.users (id - 1) u here ok.highs

  pub highs_were : offer_in o.number u.offers ≡ Some o → highs_fit (conferences_in (contents_of b)) o.highs ≡ true
  highs_were is = subst (λ (cs : List ConferenceContents). highs_fit cs o.highs ≡ true) (sym old_conferences) (found_fits b.conferences o.number u.offers o is offers_were)

  -- what stands in a place
  pub base_read : (place : ℕ) (base : Contents) → slice_get (contents_of b) place ≡ Some base → slice_get (contents_of (read_offer id now u o b)) place ≡ Some (read_up_to id u.name now (get_or o.highs place 0) base)
  base_read place base is = ap (λ (cs : List Contents). slice_get cs place) contents_read ∙ read_at id u.name now (contents_of b) o.highs place base is

  -- ---- how many bytes its files have
  pub read_size : board_size (read_offer id now u o b) ≡ board_size b
  read_size =
      let board : board_with b.ledger (contents_of b) ≡ b = λ i. record { ledger = b.ledger; conferences = old_conferences i } in
      omega (
        arith,
        size_in b.ledger (contents_of b) old_shapes,
        ap board_size board,
        size_in (read_offer id now u o b).ledger bases new_shapes,
        text_stays b.ledger id u (without_offer o.number u) here alike ok.ledger read_each,
        all_sizes id u.name now (contents_of b) o.highs,
      )

  pub read_room : length (record_in b.ledger (without_offer o.number u)) ≡ length (record_in b.ledger u)
  read_room = same_text b.ledger id u (without_offer o.number u) here alike ok.ledger read_each

  -- ---- validity
  -- highs that fitted do on the bases that were read
  still_fit : (v : User) → offers_fit b.conferences v.offers ≡ true → offers_fit (conferences_in bases) v.offers ≡ true
  still_fit v fit = all_offers id u.name now (contents_of b) o.highs v.offers ∙ subst (λ (cs : List ConferenceContents). offers_fit cs v.offers ≡ true) (sym old_conferences) fit

  pub read_is : offer_in o.number u.offers ≡ Some o → now < 2 ^ 32 → IsBoard (read_offer id now u o b)
  read_is is small =
      let was = user_was b.ledger id u (without_offer o.number u) here alike ok.ledger in
      record {
        ledger = ledger_is b.ledger id u (without_offer o.number u) here alike ok.ledger (without_user (length b.ledger.setup.conferences) o.number u was);
        conferences = subst (λ (s : List Shape). AllZip IsConference s (conferences_in bases)) new_shapes (zipped bases (all_bases id u.name now (contents_of b) o.highs small (highs_were is) were_bases));
        highs = All-set (λ (v : User). offers_fit (conferences_in bases) v.offers ≡ true) b.ledger.users (id - 1) (without_offer o.number u)
            (others_fit (conferences_in bases) o.number u.offers (still_fit u offers_were))
            (All-weaker (λ (v : User). offers_fit b.conferences v.offers ≡ true) (λ (v : User). offers_fit (conferences_in bases) v.offers ≡ true) still_fit b.ledger.users ok.highs);
        small = omega (arith, ok.small, read_size);
      }

-- ---- whether the user is there or not, and the offer open or not
pub acknowledged_size : (b : Board) (id packet now : ℕ) → IsBoard b → board_size (acknowledged id packet now b) ≡ board_size b
acknowledged_size b id packet now ok = by (user_of id b) refl
  where
    by_offer : (u : User) → slice_get b.ledger.users (id - 1) ≡ Some u → (found : Option OpenOffer) → board_size (unwrap_or (option_map (λ o. read_offer id now u o b) found) b) ≡ board_size b
    by_offer u here None = refl
    by_offer u here (Some o) = read_size b id now u o here ok

    by : (o : Option User) → user_of id b ≡ o → board_size (for_user (read_by id packet now) o b) ≡ board_size b
    by None none = refl
    by (Some u) is = by_offer u (user_there b id u is) (offer_in packet u.offers)

pub acknowledged_board : (b : Board) (id packet now : ℕ) → now < 2 ^ 32 → IsBoard b → IsBoard (acknowledged id packet now b)
acknowledged_board b id packet now small ok = by (user_of id b) refl
  where
    by_offer : (u : User) → slice_get b.ledger.users (id - 1) ≡ Some u → (found : Option OpenOffer) → offer_in packet u.offers ≡ found → IsBoard (unwrap_or (option_map (λ o. read_offer id now u o b) found) b)
    by_offer u here None is = ok
    by_offer u here (Some o) is = read_is b id now u o here ok (found_itself packet o u.offers is) small

    by : (o : Option User) → user_of id b ≡ o → IsBoard (for_user (read_by id packet now) o b)
    by None none = ok
    by (Some u) is = by_offer u (user_there b id u is) (offer_in packet u.offers) refl
