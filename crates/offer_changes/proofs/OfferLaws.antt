-- A board on which a packet more is offered to a user: its size, just when it is valid, and the patch that leads to it.
use Rattle.std.proofs.Common.{◌≡◌, ℕ, ◌+◌, ◌-◌, ◌<◌, true, ◌&&◌, eqb, leb, List, [], ◌∷◌, ◌++◌, length, set, refl, sym, ap, subst, arith}
use Rattle.std.specs.Prelude.{All, slice_get, Option, None, Some, sum_by}
use Rattle.std.specs.List.{AllZip}
use Rattle.std.proofs.lemmas.Bool.{and_from, and_parts, eq-eqb, eqb-true, leb-true}
use Rattle.std.proofs.lemmas.List.Elements.{All-cons, All-nil, All-set}
use Rattle.board_changes.proofs.GatherLaws.{gathered_rest}
use Rattle.board_changes.proofs.LeadLaws.{leads_next, places_count}
use Rattle.board_changes.proofs.OneBase.{all_at, set_there}
use Rattle.board_layout.proofs.BoardLookups.{conferences_count}
use Rattle.board_changes.specs.Change.{Leads}
use Rattle.board_changes.specs.Gathered.{at_place, Gathered}
use Rattle.board_layout.specs.Board.{Board, shapes_of}
use Rattle.board_layout.specs.Layout.{IsLayout, base_files, board_size, layouts}
use Rattle.board_layout.specs.Renewed.{contents, contents_of}
use Rattle.board_layout.specs.Valid.{IsBoard, highs_fit, offers_fit}
use Rattle.board_ledger.specs.Ledger.{ledger_text}
use Rattle.open_offers.specs.Offers.{are_of_member, IsOffer}
use Rattle.board_ledger.specs.UserPuts.{record_in, user_puts}
use Rattle.board_ledger.specs.Users.{IsUser}
use Rattle.open_offers.specs.declared.offer.OpenOffer.{OpenOffer}
use Rattle.board_ledger.specs.declared.user.User.{User}
use Rattle.intent_journal.specs.declared.patch.Patch.{Patch}
use Rattle.jam_layout.specs.Layout.{files_size}
use Rattle.jam_layout.specs.Valid.{IsConference}
use Rattle.jam_layout.specs.declared.conference.ConferenceContents.{ConferenceContents}
use Rattle.jam_layout.specs.declared.files.BaseFiles.{BaseFiles}
use Rattle.jam_layout.specs.declared.shape.Shape.{Shape}
use Rattle.record_numbers.specs.Numbers.{IsU32}
use Rattle.offer_changes.proofs.LedgerLaws.{ledger_is, same_text, shapes_stay, text_stays, user_is, user_was, was_each}
use Rattle.offer_changes.proofs.OpenOffers.{latest_all, latest_fit, latest_has, new_fits, offers_more}
use Rattle.offer_changes.proofs.PutLaws.{gathered_user}
use Rattle.offer_changes.proofs.UserLaws.{Alike, OneHighEach, user_there}
use Rattle.board_layout.specs.Lookups.{user_of}
use Rattle.offer_changes.specs.Changed.{for_user, latest, offer_made, offered_to, with_offer}
use Rattle.offer_changes.specs.Highs.{may_have}

-- ---- the user
-- the offer more
abbrev new_offer : List ℕ → User → OpenOffer
new_offer highs u = record { number = u.last + 1; highs = highs }

offer_user : (count : ℕ) (u : User) (highs : List ℕ) → IsUser count u → u.last < 0xFFFF_FFFF → length highs ≡ count → All IsU32 highs → are_of_member u.members 0 highs ≡ true → IsUser count (with_offer highs u)
offer_user count u highs ok more many small right = record {
  name = ok.name;
  members = ok.members;
  last = omega (arith, more);
  offers = offers_more count u.members u.last u.offers (new_offer highs u) refl ok.offers (record { one_high_each = many; highs = small; of_member = right });
}

offer_right : (count : ℕ) (u : User) (highs : List ℕ) → IsUser count (with_offer highs u) → IsOffer count u.members (new_offer highs u)
offer_right count u highs is = latest_has (IsOffer count u.members) u.offers (new_offer highs u) is.offers.each

-- highs that fit are small
small_highs : (highs : List ℕ) (shapes : List Shape) (conferences : List ConferenceContents) → AllZip IsConference shapes conferences → length highs ≡ length conferences → highs_fit conferences highs ≡ true → All IsU32 highs
small_highs [] shapes conferences all many fit = All-nil IsU32
small_highs (high ∷ highs) [] [] all many fit = absurd (omega (arith, many))
small_highs (high ∷ highs) [] (c ∷ conferences) all many fit = absurd all
small_highs (high ∷ highs) (shape ∷ shapes) [] all many fit = absurd all
small_highs (high ∷ highs) (shape ∷ shapes) (c ∷ conferences) all many fit =
    let parts = and_parts (leb high (length c.slots)) (highs_fit conferences highs) fit in
    let low = leb-true high (length c.slots) parts.0 in
    All-cons IsU32 high highs (omega (arith, low, all.0.few)) (small_highs highs shapes conferences all.1 (omega (arith, many)) parts.1)

-- ---- the board
pub offer_there : (b : Board) (id : ℕ) (u : User) (highs : List ℕ) → user_of id b ≡ Some u → offer_made id highs b ≡ offered_to id highs u b
offer_there b id u highs here = ap (λ (o : Option User). for_user (offered_to id highs) o b) here

module _ (b : Board) (id : ℕ) (u : User) (highs : List ℕ) (here : slice_get b.ledger.users (id - 1) ≡ Some u) where
  alike : Alike u (with_offer highs u)
  alike = record { name = refl; members = refl }

  pub offer_shapes : shapes_of (offered_to id highs u b).ledger ≡ shapes_of b.ledger
  offer_shapes = shapes_stay b.ledger id u (with_offer highs u) here alike

  pub contents_stay : contents_of (offered_to id highs u b) ≡ contents_of b
  contents_stay = ap (λ (s : List Shape). contents s b.conferences) offer_shapes

  files_stay : base_files (offered_to id highs u b) ≡ base_files b
  files_stay = ap (λ (s : List Shape). layouts s b.conferences) offer_shapes

  -- ---- how many bytes its files have
  offer_each : IsBoard b → length highs ≡ length b.ledger.setup.conferences → OneHighEach (length b.ledger.setup.conferences) (with_offer highs u)
  offer_each ok many = latest_all (λ (o : OpenOffer). length o.highs ≡ length b.ledger.setup.conferences) u.offers (new_offer highs u) (was_each b.ledger id u (with_offer highs u) here alike ok.ledger) many

  pub offer_size : IsBoard b → length highs ≡ length b.conferences → board_size (offered_to id highs u b) ≡ board_size b
  offer_size ok many =
      let text = text_stays b.ledger id u (with_offer highs u) here alike ok.ledger (offer_each ok (omega (arith, many, conferences_count b ok))) in
      omega (arith, text, ap (sum_by files_size) files_stay)

  -- ---- validity
  highs_before : IsBoard b → offers_fit b.conferences u.offers ≡ true
  highs_before ok = all_at (λ (v : User). offers_fit b.conferences v.offers ≡ true) b.ledger.users (id - 1) u here ok.highs

  pub offer_is : IsBoard b → u.last < 0xFFFF_FFFF → may_have b u highs ≡ true → IsBoard (offered_to id highs u b)
  offer_is ok more may =
      let halves = and_parts (eqb (length highs) (length b.conferences) && highs_fit b.conferences highs) (are_of_member u.members 0 highs) may in
      let own = and_parts (eqb (length highs) (length b.conferences)) (highs_fit b.conferences highs) halves.0 in
      let many : length highs ≡ length b.conferences = eqb-true (length highs) (length b.conferences) own.0 in
      let count : length highs ≡ length b.ledger.setup.conferences = omega (arith, many, conferences_count b ok) in
      let was = user_was b.ledger id u (with_offer highs u) here alike ok.ledger in
      let user : IsUser (length b.ledger.setup.conferences) (with_offer highs u) =
      offer_user (length b.ledger.setup.conferences) u highs was more count (small_highs highs (shapes_of b.ledger) b.conferences ok.conferences many own.1) halves.1 in
      record {
        ledger = ledger_is b.ledger id u (with_offer highs u) here alike ok.ledger user;
        conferences = subst (λ (s : List Shape). AllZip IsConference s b.conferences) (sym offer_shapes) ok.conferences;
        highs = All-set (λ (v : User). offers_fit b.conferences v.offers ≡ true) b.ledger.users (id - 1) (with_offer highs u) (latest_fit b.conferences u.offers (new_offer highs u) (highs_before ok) own.1) ok.highs;
        small = omega (arith, ok.small, offer_size ok many);
      }

  pub offer_last : IsBoard (offered_to id highs u b) → u.last < 0xFFFF_FFFF
  offer_last next = omega (arith, (user_is b.ledger id u (with_offer highs u) here alike next.ledger).last)

  pub offer_may : IsBoard b → IsBoard (offered_to id highs u b) → may_have b u highs ≡ true
  offer_may ok next =
      let user = user_is b.ledger id u (with_offer highs u) here alike next.ledger in
      let there = set_there b.ledger.users (id - 1) u (with_offer highs u) here in
      let right = offer_right (length b.ledger.setup.conferences) u highs user in
      let after : offers_fit b.conferences (latest (u.offers ++ new_offer highs u ∷ [])) ≡ true = all_at (λ (v : User). offers_fit b.conferences v.offers ≡ true) (set b.ledger.users (id - 1) (with_offer highs u)) (id - 1) (with_offer highs u) there next.highs in
      let fit : highs_fit b.conferences highs ≡ true = new_fits b.conferences u.offers (new_offer highs u) after in
      let many : length highs ≡ length b.conferences = omega (arith, right.one_high_each, conferences_count b ok) in
      and_from (eqb (length highs) (length b.conferences) && highs_fit b.conferences highs) (are_of_member u.members 0 highs)
      (and_from (eqb (length highs) (length b.conferences)) (highs_fit b.conferences highs) (eq-eqb (length highs) (length b.conferences) many) fit) right.of_member

  -- ---- the patch of its ledger
  offer_room : IsBoard b → IsBoard (offered_to id highs u b) → length (record_in b.ledger (with_offer highs u)) ≡ length (record_in b.ledger u)
  offer_room ok next =
      let right = offer_right (length b.ledger.setup.conferences) u highs (user_is b.ledger id u (with_offer highs u) here alike next.ledger) in
      same_text b.ledger id u (with_offer highs u) here alike ok.ledger (offer_each ok right.one_high_each)

  pub offer_leads : IsBoard b → IsBoard (offered_to id highs u b) → Leads (IsLayout b) (offered_to id highs u b) (user_puts (id - 1) (with_offer highs u) b.ledger)
  offer_leads ok next =
      let text : List ℕ = ledger_text (offered_to id highs u b).ledger in
      let patches : List Patch = user_puts (id - 1) (with_offer highs u) b.ledger in
      let old : List BaseFiles = base_files b in
      let new : List BaseFiles = base_files (offered_to id highs u b) in
      let many = ok.ledger.setup.conferences.many in
      let none = gathered_user b.ledger id u (with_offer highs u) here (offer_room ok next) (IsLayout b) old new (λ files is. is.places) (λ files is. is.ledger) in
      let all = gathered_rest (IsLayout b) text old new patches 0 (length b.conferences) none (omega (arith, conferences_count b ok, many)) (omega (arith, places_count b ok, ap (length {A = BaseFiles}) files_stay))
      (λ k low high. ap (λ (files : List BaseFiles). at_place files k) (sym files_stay)) in
      leads_next b (offered_to id highs u b) patches ok next refl (subst (λ (k : ℕ). Gathered (IsLayout b) text old new k patches) (omega arith) all)

-- the size of the board, where there is a high for each conference
pub offered_size : (b : Board) (id : ℕ) (highs : List ℕ) → IsBoard b → length highs ≡ length b.conferences → board_size (offer_made id highs b) ≡ board_size b
offered_size b id highs ok many = by (user_of id b) refl
  where
    by : (o : Option User) → user_of id b ≡ o → board_size (for_user (offered_to id highs) o b) ≡ board_size b
    by None none = refl
    by (Some u) is = offer_size b id u highs (user_there b id u is) ok many
