-- A change of boards with one outline gives boards with one outline, and where it may be made of one it may be of each.
use Rattle.std.proofs.Common.{◌≡◌, ℕ, ◌<◌, Bool, true, false, inl, inr, List, length, Option, Some, None, refl, sym, ap, ◌∙◌, subst, arith}
use Rattle.std.specs.Prelude.{All, IsSome, IsSomeAnd, IsTrue}
use Rattle.std.specs.List.{AllZip}
use Rattle.std.proofs.lemmas.Bool.{cond-false}
use Rattle.std.proofs.lemmas.List.{length-map}
use Rattle.std.proofs.lemmas.Option.{slice_get_cases}
use Rattle.post_changes.proofs.board_changes.EachMember.{member_keeps, member_outline}
use Rattle.post_changes.proofs.board_changes.OneBase.{conferences_back}
use Rattle.post_changes.specs.board_changes.Changed.{base_at, new_user, with_member}
use Rattle.board_layout.proofs.OneOutline.{alike_base, alike_ledger, alike_places, alike_user, alike_valid}
use Rattle.board_layout.proofs.OutlineLaws.{outline_has_live}
use Rattle.board_layout.specs.Board.{Board, shapes_of}
use Rattle.board_layout.specs.Lookups.{user_of}
use Rattle.board_layout.specs.Outlines.{board_outline}
use Rattle.board_layout.specs.Renewed.{contents_of}
use Rattle.board_layout.specs.Valid.{IsBoard}
use Rattle.board_ledger.specs.declared.ledger.Ledger.{Ledger}
use Rattle.board_ledger.specs.declared.user.User.{User}
use Rattle.board_layout.proofs.jam_base.OutlineChanges.{killed_blind}
use Rattle.board_layout.specs.jam_base.Contents.{Contents, with_deleted}
use Rattle.board_layout.specs.jam_base.Outlined.{outlined}
use Rattle.board_layout.specs.jam_base.Slots.{has_live}
use Rattle.jam_layout.specs.Valid.{IsConference}
use Rattle.jam_layout.specs.declared.conference.ConferenceContents.{ConferenceContents}
use Rattle.jam_layout.specs.declared.shape.Shape.{Shape}
use Rattle.jam_records.specs.declared.message.Message.{Message}
use Rattle.offer_changes.proofs.OfferLaws.{offer_shapes}
use Rattle.offer_changes.proofs.UserLaws.{user_there}
use Rattle.offer_changes.specs.Changed.{for_user, offer_in, offer_made, offered_to}
use Rattle.post_changes.proofs.EachPost.{posted_keeps, posted_outline}
use Rattle.post_changes.proofs.RecordLaws.{record_shapes}
use Rattle.post_changes.specs.Posted.{posted_with, upload_record, with_record}
use Rattle.post_changes.proofs.slot_changes.DeleteLaws.{killed_is}
use Rattle.post_changes.proofs.slot_changes.EachSlots.{appended_keeps, deleted_keeps, identified_same, msgids_alike}
use Rattle.post_changes.specs.slot_changes.Changed.{HasMessage, deleted, with_identified, with_killed}
use Rattle.post_changes.specs.slot_changes.Msgids.{msgid_in}
use Rattle.mail_board.proofs.EachBases.{changed_base}
use Rattle.mail_board.proofs.EachRead.{acknowledged_alike, acknowledged_valid}
use Rattle.mail_board.specs.Changes.{changed, Fits}
use Rattle.mail_board.specs.Held.{AreAlike}
use Rattle.mail_board.specs.declared.change.Change.{Change}
use Rattle.mail_board.specs.declared.change.Change.TheVariants.{Enroll, Append, Spread, Kill, Offer, Acknowledge, Upload}

-- ---- a message deleted
live_same : (number : ℕ) (x y : Contents) → outlined x ≡ outlined y → has_live number x.conference.slots ≡ has_live number y.conference.slots
live_same number x y same = sym (outline_has_live x.conference.slots number) ∙ (ap (λ (c : Contents). has_live number c.conference.slots) same ∙ outline_has_live y.conference.slots number)

killed_same : (number : ℕ) (x y : Contents) → outlined x ≡ outlined y → outlined (with_killed number x) ≡ outlined (with_killed number y)
killed_same number x y same = by (has_live number y.conference.slots) refl
  where
    by : (live : Bool) → has_live number y.conference.slots ≡ live → outlined (with_killed number x) ≡ outlined (with_killed number y)
    by true is =
        let blind = killed_blind y number is in
        ap outlined (killed_is x number (live_same number x y same ∙ is))
        ∙ (blind.outline x same ∙ (ap (with_deleted number) same ∙ (sym (blind.outline y refl) ∙ sym (ap outlined (killed_is y number is)))))
    by false is =
        ap outlined (cond-false (has_live number x.conference.slots) (with_deleted number x) x (live_same number x y same ∙ is))
        ∙ (same ∙ sym (ap outlined (cond-false (has_live number y.conference.slots) (with_deleted number y) y is)))

-- ---- an offer
pub offer_outline : (id : ℕ) (highs : List ℕ) (o : Option User) (b : Board) → board_outline (for_user (offered_to id highs) o b) ≡ for_user (offered_to id highs) o (board_outline b)
offer_outline id highs None b = refl
offer_outline id highs (Some u) b = refl

module _ (a b : Board) (alike : AreAlike a b) where
  -- ---- the outline of what a change makes of them
  appended_same : (place : ℕ) (messages : List Message) (x y : Contents) → outlined x ≡ outlined y → outlined (with_identified (msgid_in place a) messages x) ≡ outlined (with_identified (msgid_in place b) messages y)
  appended_same place messages x y same =
      ap (λ (msgid : ℕ → List ℕ). outlined (with_identified msgid messages x)) (msgids_alike a b place alike) ∙ identified_same y (msgid_in place b) messages x same

  pub changed_alike : (change : Change) → AreAlike (changed change a) (changed change b)
  changed_alike (Enroll name net members) =
      let u : User = new_user name net members in
      member_outline u a ∙ (ap (with_member u) alike ∙ sym (member_outline u b))
  changed_alike (Append place messages) =
      changed_base a b alike place (with_identified (msgid_in place a) messages) (with_identified (msgid_in place b) messages) (appended_same place messages)
  changed_alike (Spread posts) = posted_outline a b alike posts a.ledger ∙ ap (λ (l : Ledger). board_outline (posted_with l posts b)) (alike_ledger a b alike)
  changed_alike (Kill place number) = changed_base a b alike place (with_killed number) (with_killed number) (killed_same number)
  changed_alike (Offer user highs) =
      offer_outline user highs (user_of user a) a ∙ (ap (offer_made user highs) alike ∙ sym (offer_outline user highs (user_of user b) b))
  changed_alike (Acknowledge user packet now) = acknowledged_alike a b alike user packet now
  changed_alike (Upload user digest refused posts) =
      let r = upload_record user digest refused posts in
      posted_outline a b alike posts (with_record r a.ledger) ∙ ap (λ (l : Ledger). board_outline (posted_with (with_record r l) posts b)) (alike_ledger a b alike)

  -- ---- where it may be made
  module _ (ok : IsBoard a) (was : IsBoard b) where
    append_valid : (place : ℕ) (messages : List Message) → place < length b.conferences → IsBoard (changed (Append place messages) b) → IsBoard (changed (Append place messages) a)
    append_valid place messages within next = elim (slice_get_cases (contents_of b) place).1 [
      | inl found ↦ (appended_keeps b place messages found.0 was found.2 next).valid a ok alike
      | inr past ↦ absurd (omega (
        arith,
        past.0,
        within,
        ap (length {A = ConferenceContents}) (conferences_back (shapes_of b.ledger) b.conferences was.conferences),
        length-map (contents_of b) (λ (base : Contents). base.conference),
      ))
    ]

    placed_alike : (posts : List (ℕ × Message)) → All (λ (post : ℕ × Message). post.0 < length b.conferences) posts → All (λ (post : ℕ × Message). post.0 < length a.conferences) posts
    placed_alike posts placed = subst (λ (n : ℕ). All (λ (post : ℕ × Message). post.0 < n) posts) (sym (alike_places a b alike)) placed

    posted_valid : (posts : List (ℕ × Message)) (l m : Ledger) → l ≡ m → shapes_of m ≡ shapes_of b.ledger → IsBoard (posted_with m posts b) → IsBoard (posted_with l posts a)
    posted_valid posts l m same shapes next = subst (λ (k : Ledger). IsBoard (posted_with k posts a)) (sym same) ((posted_keeps b posts m was shapes next).valid a ok alike)

    kill_fits : (place number : ℕ) (o : Option Contents) → base_at place b ≡ o → HasMessage place number b → IsSomeAnd o (λ (base : Contents). IsTrue (has_live number base.conference.slots)) → HasMessage place number a × IsBoard (deleted place number a)
    kill_fits place number None here has live = absurd live
    kill_fits place number (Some base) here has live =
        let there = alike_base a b alike place base here in
        let still : IsTrue (has_live number there.0.conference.slots) = live_same number there.0 base there.2 ∙ live in (
          subst (λ (o : Option Contents). IsSomeAnd o (λ (c : Contents). IsTrue (has_live number c.conference.slots))) (sym there.1) still,
          (deleted_keeps b place number base here has).valid a ok alike,
        )

    offer_valid : (user : ℕ) (highs : List ℕ) (o : Option User) → user_of user a ≡ o → AllZip IsConference (shapes_of (for_user (offered_to user highs) o a).ledger) (for_user (offered_to user highs) o a).conferences
    offer_valid user highs None here = ok.conferences
    offer_valid user highs (Some u) here = subst (λ (s : List Shape). AllZip IsConference s a.conferences) (sym (offer_shapes a user u highs (user_there a user u here))) ok.conferences

    pub fits_alike : (change : Change) → Fits change b → Fits change a
    fits_alike (Enroll name net members) fits = (member_keeps b (new_user name net members) fits).valid a ok alike
    fits_alike (Append place messages) fits = (subst (λ (n : ℕ). place < n) (sym (alike_places a b alike)) fits.0, append_valid place messages fits.0 fits.1)
    fits_alike (Spread posts) fits = (placed_alike posts fits.0, posted_valid posts a.ledger b.ledger (alike_ledger a b alike) refl fits.1)
    fits_alike (Kill place number) fits = kill_fits place number (base_at place b) refl fits.0 fits.0
    fits_alike (Offer user highs) fits = (
      subst (λ (o : Option User). IsSomeAnd o (λ (u : User). u.last < 0xFFFF_FFFF)) (sym (alike_user a b alike user)) fits.0,
      alike_valid (changed (Offer user highs) a) (changed (Offer user highs) b) (changed_alike (Offer user highs)) fits.1 (offer_valid user highs (user_of user a) refl),
    )
    fits_alike (Acknowledge user packet now) fits = (
      subst (λ (o : Option User). IsSomeAnd o (λ (u : User). IsSome (offer_in packet u.offers))) (sym (alike_user a b alike user)) fits.0,
      acknowledged_valid a b alike user packet now ok was fits.1,
    )
    fits_alike (Upload user digest refused posts) fits =
        let r = upload_record user digest refused posts in
        (placed_alike posts fits.0, posted_valid posts (with_record r a.ledger) (with_record r b.ledger) (ap (with_record r) (alike_ledger a b alike)) (record_shapes b.ledger r) fits.1)
