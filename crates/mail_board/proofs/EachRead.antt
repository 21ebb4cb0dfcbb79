-- An acknowledgement of boards with one outline: it gives boards with one outline, and bases that are valid. Of a board that
-- is its own outline it gives one that is its own.
use Rattle.std.proofs.Common.{◌≡◌, ℕ, ◌+◌, Bool, true, false, cond, List, [], ◌∷◌, map, Option, Some, None, refl, sym, ap, ◌∙◌, subst}
use Rattle.std.specs.Prelude.{All, option_map, unwrap_or}
use Rattle.std.specs.List.{AllZip}
use Rattle.std.proofs.lemmas.List.Elements.{All-nil, All-cons, All-head, All-tail}
use Rattle.post_changes.proofs.board_changes.BaseOutlines.{conferences_outlined, own_bases}
use Rattle.post_changes.proofs.board_changes.OneBase.{are_bases, shapes_back}
use Rattle.board_layout.proofs.BasePlaces.{IsBase, zipped}
use Rattle.board_layout.proofs.OneOutline.{alike_ledger, alike_user, alike_valid, conference_back}
use Rattle.board_layout.specs.Board.{Board, conferences_in, shapes_in, shapes_of}
use Rattle.board_layout.specs.Lookups.{user_of}
use Rattle.board_layout.specs.Outlines.{HasBody, board_outline}
use Rattle.board_layout.specs.Renewed.{contents_of}
use Rattle.board_layout.specs.Valid.{IsBoard}
use Rattle.board_ledger.specs.declared.user.User.{User}
use Rattle.board_layout.proofs.jam_base.OutlineChanges.{acknowledged_blind}
use Rattle.board_layout.specs.jam_base.Contents.{Contents, pointer_of, receipt_to, with_acknowledged, with_slots}
use Rattle.board_layout.specs.jam_base.Outlined.{outlined}
use Rattle.board_layout.specs.jam_base.Slots.{any_due, is_due, slot_received, slots_received}
use Rattle.board_layout.specs.jam_base.declared.receipt.Receipt.{Receipt}
use Rattle.jam_layout.proofs.OutlineLaws.{conference_outline}
use Rattle.jam_layout.specs.Messages.{IsSlot}
use Rattle.jam_layout.specs.Outlines.{outline}
use Rattle.jam_layout.specs.Valid.{IsConference}
use Rattle.jam_layout.specs.declared.conference.ConferenceContents.{ConferenceContents}
use Rattle.jam_layout.specs.declared.shape.Shape.{Shape}
use Rattle.jam_records.specs.declared.message.Kind.{Kind}
use Rattle.jam_records.specs.declared.message.Slot.{Slot}
use Rattle.jam_records.specs.declared.message.Slot.TheVariants.{Gone, Held}
use Rattle.offer_changes.proofs.AcknowledgeLaws.{contents_read}
use Rattle.offer_changes.proofs.LedgerLaws.{shapes_stay}
use Rattle.offer_changes.proofs.ReadLaws.{all_shapes}
use Rattle.offer_changes.proofs.UserLaws.{Alike, user_there}
use Rattle.offer_changes.specs.Changed.{acknowledged, all_read, for_user, is_high_above, offer_in, read_by, read_offer, read_up_to, with_user_replaced, without_offer}
use Rattle.open_offers.specs.declared.offer.OpenOffer.{OpenOffer}
use Rattle.post_changes.proofs.EachPost.{head_is, tail_is}
use Rattle.mail_board.proofs.EachBases.{bases_alike}
use Rattle.mail_board.specs.Held.{AreAlike}

-- ---- one base
module _ (id : ℕ) (name : List ℕ) (now : ℕ) where
  -- what the outline shows of it
  read_outline : (high : ℕ) (base : Contents) → outlined (read_up_to id name now high base) ≡ read_up_to id name now high (outlined base)
  read_outline high base = by (is_high_above high (pointer_of id base.shape.readers base.conference.pointers))
    where
      by : (above : Bool) → outlined (cond above (with_acknowledged id name high now base) base) ≡ cond above (with_acknowledged id name high now (outlined base)) (outlined base)
      by true = (acknowledged_blind base id name high now).outline base refl
      by false = refl

  read_same : (high : ℕ) (x y : Contents) → outlined x ≡ outlined y → outlined (read_up_to id name now high x) ≡ outlined (read_up_to id name now high y)
  read_same high x y same = read_outline high x ∙ (ap (read_up_to id name now high) same ∙ sym (read_outline high y))

  -- ---- all bases
  all_read_outline : (bases : List Contents) (highs : List ℕ) → map outlined (all_read id name now bases highs) ≡ all_read id name now (map outlined bases) highs
  all_read_outline [] highs = refl
  all_read_outline (base ∷ bases) [] = refl
  all_read_outline (base ∷ bases) (high ∷ highs) = λ i. read_outline high base i ∷ all_read_outline bases highs i

  all_read_same : (xs ys : List Contents) (highs : List ℕ) → map outlined xs ≡ map outlined ys → map outlined (all_read id name now xs highs) ≡ map outlined (all_read id name now ys highs)
  all_read_same xs ys highs same =
      all_read_outline xs highs ∙ (ap (λ (bases : List Contents). all_read id name now bases highs) same ∙ sym (all_read_outline ys highs))

-- ---- bodies stay
body_kept : (name : List ℕ) (r : Receipt) (n : ℕ) (s : Slot) → HasBody s → HasBody (slot_received name r n s)
body_kept name r n Gone body = body
body_kept name r n (Held m) body = by (is_due name r n m)
  where
    by : (due : Bool) → HasBody (Held (cond due (record m { seen = true; received = r.now }) m))
    by true = body
    by false = body

bodies_kept : (name : List ℕ) (r : Receipt) (n : ℕ) (slots : List Slot) → All HasBody slots → All HasBody (slots_received name r n slots)
bodies_kept name r n [] all = All-nil HasBody
bodies_kept name r n (s ∷ slots) all =
    All-cons HasBody (slot_received name r n s) (slots_received name r (n + 1) slots) (body_kept name r n s (All-head HasBody s slots all)) (bodies_kept name r (n + 1) slots (All-tail HasBody s slots all))

has_body : (kind : Kind) (s : Slot) → IsSlot kind s → HasBody s
has_body kind Gone ok = tt
has_body kind (Held m) ok = (ok.bytes.body, ok.ended)

have_bodies : (kind : Kind) (slots : List Slot) → All (IsSlot kind) slots → All HasBody slots
have_bodies kind [] all = All-nil HasBody
have_bodies kind (s ∷ slots) all =
    All-cons HasBody s slots (has_body kind s (All-head (IsSlot kind) s slots all)) (have_bodies kind slots (All-tail (IsSlot kind) s slots all))

module _ (id : ℕ) (name : List ℕ) (now high : ℕ) (base : Contents) (bodies : All HasBody base.conference.slots) where
  received_bodies : (r : Receipt) (due : Bool) → All HasBody (cond due (with_slots (slots_received name r 1 base.conference.slots) base) base).conference.slots
  received_bodies r true = bodies_kept name r 1 base.conference.slots bodies
  received_bodies r false = bodies

  read_bodies : All HasBody (read_up_to id name now high base).conference.slots
  read_bodies = by (is_high_above high (pointer_of id base.shape.readers base.conference.pointers))
    where
      by : (above : Bool) → All HasBody (cond above (with_acknowledged id name high now base) base).conference.slots
      by true = received_bodies (receipt_to id high now base) (any_due name (receipt_to id high now base) 1 base.conference.slots)
      by false = bodies

-- ---- a base is valid where one with its outline is
module _ (id : ℕ) (name : List ℕ) (now : ℕ) where
  read_valid : (high : ℕ) (x y : Contents) → outlined x ≡ outlined y → IsBase x → IsBase (read_up_to id name now high y) → IsBase (read_up_to id name now high x)
  read_valid high x y same ok next =
      let new : Contents = read_up_to id name now high x in
      let shown : outlined new ≡ outlined (read_up_to id name now high y) = read_same id name now high x y same in
      let whole : IsBase (outlined (read_up_to id name now high y)) = conference_outline (read_up_to id name now high y).shape (read_up_to id name now high y).conference next in
      conference_back new.shape new.conference (subst IsBase (sym shown) whole) (read_bodies id name now high x (have_bodies x.shape.kind x.conference.slots ok.slots))

  all_valid : (xs ys : List Contents) (highs : List ℕ) → map outlined xs ≡ map outlined ys → All IsBase xs → All IsBase (all_read id name now ys highs) → All IsBase (all_read id name now xs highs)
  all_valid [] ys highs same ok next = All-nil IsBase
  all_valid (x ∷ xs) [] highs same ok next = absurd (cc)
  all_valid (x ∷ xs) (y ∷ ys) [] same ok next = ok
  all_valid (x ∷ xs) (y ∷ ys) (high ∷ highs) same ok next =
      let here = head_is (outlined x) (outlined y) (map outlined xs) (map outlined ys) same in
      let others = tail_is (outlined x) (outlined y) (map outlined xs) (map outlined ys) same in
      All-cons IsBase (read_up_to id name now high x) (all_read id name now xs highs)
      (read_valid high x y here (All-head IsBase x xs ok) (All-head IsBase (read_up_to id name now high y) (all_read id name now ys highs) next))
      (all_valid xs ys highs others (All-tail IsBase x xs ok) (All-tail IsBase (read_up_to id name now high y) (all_read id name now ys highs) next))

-- ---- the board
module _ (a b : Board) (alike : AreAlike a b) (id packet now : ℕ) where
  one_offer : (u : User) (o : OpenOffer) → AreAlike (read_offer id now u o a) (read_offer id now u o b)
  one_offer u o =
      let xs : List Contents = all_read id u.name now (contents_of a) o.highs in
      let ys : List Contents = all_read id u.name now (contents_of b) o.highs in
      let ledgers : (read_offer id now u o a).ledger ≡ (read_offer id now u o b).ledger = ap (with_user_replaced id (without_offer o.number u)) (alike_ledger a b alike) in
      let conferences : map outline (conferences_in xs) ≡ map outline (conferences_in ys) =
      conferences_outlined xs ∙ (ap conferences_in (all_read_same id u.name now (contents_of a) (contents_of b) o.highs (bases_alike a b alike)) ∙ sym (conferences_outlined ys)) in
      λ i. record { ledger = ledgers i; conferences = conferences i }

  by_offer : (u : User) (found : Option OpenOffer) → AreAlike (unwrap_or (option_map (λ o. read_offer id now u o a) found) a) (unwrap_or (option_map (λ o. read_offer id now u o b) found) b)
  by_offer u None = alike
  by_offer u (Some o) = one_offer u o

  by_user : (o : Option User) → AreAlike (for_user (read_by id packet now) o a) (for_user (read_by id packet now) o b)
  by_user None = alike
  by_user (Some u) = by_offer u (offer_in packet u.offers)

  pub acknowledged_alike : AreAlike (acknowledged id packet now a) (acknowledged id packet now b)
  acknowledged_alike = by_user (user_of id a) ∙ ap (λ (o : Option User). board_outline (for_user (read_by id packet now) o b)) (alike_user a b alike id)

  -- ---- it is valid
  module _ (ok : IsBoard a) where
    -- the conferences of the board with other bases
    placed : (u : User) (o : OpenOffer) → user_of id a ≡ Some u → All IsBase (all_read id u.name now (contents_of a) o.highs)
        → AllZip IsConference (shapes_of (read_offer id now u o a).ledger) (read_offer id now u o a).conferences
    placed u o here all =
        let bases : List Contents = all_read id u.name now (contents_of a) o.highs in
        let same : Alike u (without_offer o.number u) = record { name = refl; members = refl } in
        let shapes : shapes_in bases ≡ shapes_of (read_offer id now u o a).ledger =
        all_shapes id u.name now (contents_of a) o.highs ∙ (shapes_back (shapes_of a.ledger) a.conferences ok.conferences ∙ sym (shapes_stay a.ledger id u (without_offer o.number u) (user_there a id u here) same)) in
        subst (λ (s : List Shape). AllZip IsConference s (conferences_in bases)) shapes (zipped bases all)

    -- the bases of the other board were valid
    read_bases : IsBoard b → (u : User) (o : OpenOffer) → user_of id b ≡ Some u → IsBoard (read_offer id now u o b) → All IsBase (all_read id u.name now (contents_of b) o.highs)
    read_bases was u o there next =
        subst (All IsBase) (contents_read b id now u o (user_there b id u there) was) (are_bases (shapes_of (read_offer id now u o b).ledger) (read_offer id now u o b).conferences next.conferences)

    valid_offer : IsBoard b → (u : User) → user_of id a ≡ Some u → user_of id b ≡ Some u → (found : Option OpenOffer) → IsBoard (unwrap_or (option_map (λ o. read_offer id now u o b) found) b)
        → AllZip IsConference (shapes_of (unwrap_or (option_map (λ o. read_offer id now u o a) found) a).ledger) (unwrap_or (option_map (λ o. read_offer id now u o a) found) a).conferences
    valid_offer was u here there None next = ok.conferences
    valid_offer was u here there (Some o) next =
        placed u o here
        (all_valid id u.name now (contents_of a) (contents_of b) o.highs (bases_alike a b alike) (are_bases (shapes_of a.ledger) a.conferences ok.conferences) (read_bases was u o there next))

    valid_user : IsBoard b → (o : Option User) → user_of id a ≡ o → user_of id b ≡ o → IsBoard (for_user (read_by id packet now) o b)
        → AllZip IsConference (shapes_of (for_user (read_by id packet now) o a).ledger) (for_user (read_by id packet now) o a).conferences
    valid_user was None here there next = ok.conferences
    valid_user was (Some u) here there next = valid_offer was u here there (offer_in packet u.offers) next

    pub acknowledged_valid : IsBoard b → IsBoard (acknowledged id packet now b) → IsBoard (acknowledged id packet now a)
    acknowledged_valid was next =
        alike_valid (acknowledged id packet now a) (acknowledged id packet now b) acknowledged_alike next
        (valid_user was (user_of id a) refl (sym (alike_user a b alike id)) (subst (λ (o : Option User). IsBoard (for_user (read_by id packet now) o b)) (sym (alike_user a b alike id)) next))

-- ---- a board that is its own outline
module _ (b : Board) (own : board_outline b ≡ b) (id packet now : ℕ) where
  own_offer : (u : User) (o : OpenOffer) → board_outline (read_offer id now u o b) ≡ read_offer id now u o b
  own_offer u o =
      let bases : List Contents = all_read id u.name now (contents_of b) o.highs in
      let same : map outlined bases ≡ bases =
      all_read_outline id u.name now (contents_of b) o.highs ∙ ap (λ (xs : List Contents). all_read id u.name now xs o.highs) (own_bases b own) in
      ap (λ (cs : List ConferenceContents). record { ledger = (read_offer id now u o b).ledger; conferences = cs }) (conferences_outlined bases ∙ ap conferences_in same)

  own_found : (u : User) (found : Option OpenOffer) → board_outline (unwrap_or (option_map (λ o. read_offer id now u o b) found) b) ≡ unwrap_or (option_map (λ o. read_offer id now u o b) found) b
  own_found u None = own
  own_found u (Some o) = own_offer u o

  own_user : (o : Option User) → board_outline (for_user (read_by id packet now) o b) ≡ for_user (read_by id packet now) o b
  own_user None = own
  own_user (Some u) = own_found u (offer_in packet u.offers)

  pub acknowledged_own : board_outline (acknowledged id packet now b) ≡ acknowledged id packet now b
  acknowledged_own = own_user (user_of id b)
