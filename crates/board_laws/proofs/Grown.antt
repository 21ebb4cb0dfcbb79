-- The conferences of a board after a change, one beside the other.
use Rattle.std.proofs.Common.{◌≡◌, ℕ, zero, suc, ◌+◌, Bool, true, false, cond, eqb, List, [], ◌∷◌, ◌++◌, length, set, Option, Some, None, refl, sym, ap, ◌∙◌, subst, arith}
use Rattle.std.specs.Prelude.{option_map, slice_get}
use Rattle.std.specs.Int.{bit_at}
use Rattle.std.specs.List.{AllZip}
use Rattle.std.proofs.lemmas.List.{append-nil}
use Rattle.std.proofs.lemmas.Option.{none-some, same_Some}
use Rattle.post_changes.proofs.board_changes.MemberLaws.{readers_more}
use Rattle.post_changes.specs.board_changes.Changed.{base_at, joined_from, joined_in, new_user, with_base, with_member, with_user as one_more}
use Rattle.board_layout.proofs.BasePlaces.{shapes_count}
use Rattle.board_layout.proofs.RenewedBases.{contents_are}
use Rattle.board_layout.specs.Board.{Board, board_with, conferences_in, readers_from, shape_of, shapes_from, shapes_in, shapes_of}
use Rattle.board_layout.specs.Lookups.{user_of}
use Rattle.board_layout.specs.Renewed.{contents, contents_of}
use Rattle.board_laws.proofs.Bases.{IsEven}
use Rattle.board_laws.proofs.OpenOffers.{after_ack}
use Rattle.board_ledger.specs.declared.ledger.Ledger.{Ledger}
use Rattle.open_offers.specs.declared.offer.OpenOffer.{OpenOffer}
use Rattle.board_ledger.specs.declared.user.User.{User}
use Rattle.jam_base.specs.Contents.{Contents, pointer_of, with_acknowledged, with_deleted, with_messages, with_reader}
use Rattle.jam_base.specs.Slots.{has_live}
use Rattle.jam_layout.specs.declared.conference.ConferenceContents.{ConferenceContents}
use Rattle.jam_layout.specs.declared.reader.Reader.{Reader}
use Rattle.jam_layout.specs.declared.shape.Shape.{Shape}
use Rattle.jam_records.specs.declared.message.Kind.{Kind}
use Rattle.jam_records.specs.declared.message.Message.{Message}
use Rattle.cmd_messages.specs.mail_board.Changes.{changed}
use Rattle.cmd_messages.specs.mail_board.declared.change.Change.{Change}
use Rattle.cmd_messages.specs.mail_board.declared.change.Change.TheVariants.{Enroll, Append, Spread, Kill, Offer, Acknowledge, Upload}
use Rattle.offer_changes.proofs.LedgerLaws.{shapes_stay}
use Rattle.offer_changes.proofs.ReadLaws.{all_shapes}
use Rattle.offer_changes.proofs.UserLaws.{user_there}
use Rattle.offer_changes.specs.Changed.{all_read, for_user, is_high_above, offered_to, read_offer, with_offer, with_user_replaced, without_offer}
use Rattle.post_changes.specs.Posted.{all_posted, posts_in, upload_record, with_record}
use Rattle.setup_file.specs.declared.conference.Conference.{Conference as SetupConference}
use Rattle.post_changes.proofs.slot_changes.AppendLaws.{shape_stays}
use Rattle.post_changes.specs.slot_changes.Changed.{with_identified, with_killed}
use Rattle.post_changes.specs.slot_changes.Msgids.{all_identified, msgid_in}

-- ---- lists one beside the other
pub zip_itself : {A : Type 0} (R : A → A → Type 0) → ((x : A) → R x x) → (xs : List A) → AllZip R xs xs
zip_itself R itself [] = tt
zip_itself R itself (x ∷ xs) = (itself x, zip_itself R itself xs)

zip_set : {A : Type 0} (R : A → A → Type 0) → ((x : A) → R x x) → (xs : List A) (k : ℕ) (x y : A) → slice_get xs k ≡ Some x → R x y → AllZip R xs (set xs k y)
zip_set R itself [] k x y here is = tt
zip_set R itself (z ∷ xs) zero x y here is = (subst (λ w. R w y) (sym (same_Some z x here)) is, zip_itself R itself xs)
zip_set R itself (z ∷ xs) (suc k) x y here is = (itself z, zip_set R itself xs k x y here is)

pub zip_back : {A : Type 0} (R : A → A → Type 0) (xs ys : List A) (k : ℕ) (y : A) → AllZip R xs ys → slice_get ys k ≡ Some y → (x : A) × (slice_get xs k ≡ Some x) × R x y
zip_back R [] [] k y zip here = absurd (none-some y here)
zip_back R [] (z ∷ ys) k y zip here = absurd zip
zip_back R (x ∷ xs) [] k y zip here = absurd zip
zip_back R (x ∷ xs) (z ∷ ys) zero y zip here = (x, refl, subst (R x) (same_Some z y here) zip.0)
zip_back R (x ∷ xs) (z ∷ ys) (suc k) y zip here = zip_back R xs ys k y zip.1 here

-- ---- boards
-- a conference for each of the setup, and in each a pointer for each reader
pub record IsWhole (b : Board) : Type 0 where
  pub count : length b.conferences ≡ length b.ledger.setup.conferences
  pub even : (place : ℕ) (base : Contents) → slice_get (contents_of b) place ≡ Some base → IsEven base

shapes_back : (shapes : List Shape) (conferences : List ConferenceContents) → length conferences ≡ length shapes → shapes_in (contents shapes conferences) ≡ shapes
shapes_back [] conferences same = refl
shapes_back (s ∷ shapes) [] same = absurd (omega (arith, same))
shapes_back (s ∷ shapes) (c ∷ conferences) same = ap (λ (ss : List Shape). s ∷ ss) (shapes_back shapes conferences (omega (arith, same)))

conferences_back : (shapes : List Shape) (conferences : List ConferenceContents) → length conferences ≡ length shapes → conferences_in (contents shapes conferences) ≡ conferences
conferences_back [] [] same = refl
conferences_back [] (c ∷ conferences) same = absurd (omega (arith, same))
conferences_back (s ∷ shapes) [] same = absurd (omega (arith, same))
conferences_back (s ∷ shapes) (c ∷ conferences) same = ap (λ (cs : List ConferenceContents). c ∷ cs) (conferences_back shapes conferences (omega (arith, same)))

pub shapes_are : (b : Board) → IsWhole b → shapes_in (contents_of b) ≡ shapes_of b.ledger
shapes_are b whole = shapes_back (shapes_of b.ledger) b.conferences (whole.count ∙ sym (shapes_count b.ledger 0 b.ledger.setup.conferences))

pub conferences_are : (b : Board) → IsWhole b → conferences_in (contents_of b) ≡ b.conferences
conferences_are b whole = conferences_back (shapes_of b.ledger) b.conferences (whole.count ∙ sym (shapes_count b.ledger 0 b.ledger.setup.conferences))

-- the bases of a board of other bases, with the same shapes
contents_with : (b : Board) → IsWhole b → (l : Ledger) (bases : List Contents) → shapes_of l ≡ shapes_of b.ledger → shapes_in bases ≡ shapes_in (contents_of b) → contents_of (board_with l bases) ≡ bases
contents_with b whole l bases same shapes = contents_are l bases (shapes ∙ (shapes_are b whole ∙ sym same))

-- those of a board on which an offer is acknowledged
pub read_contents : (b : Board) → IsWhole b → (user now : ℕ) (u : User) (o : OpenOffer) → user_of user b ≡ Some u → contents_of (read_offer user now u o b) ≡ all_read user u.name now (contents_of b) o.highs
read_contents b whole user now u o here =
    contents_with b whole (with_user_replaced user (without_offer o.number u) b.ledger) (all_read user u.name now (contents_of b) o.highs)
    (shapes_stay b.ledger user u (without_offer o.number u) (user_there b user u here) (record { name = refl; members = refl })) (all_shapes user u.name now (contents_of b) o.highs)

-- ---- what a relation says of each base and the one after a change
module _ (b : Board) (whole : IsWhole b) (R : Contents → Contents → Type 0) (itself : (x : Contents) → R x x) where
  -- what it has to say of the bases that the change makes
  abbrev pub Suits : Change → Type 0
  Suits (Enroll name net members) = (x : Contents) → IsEven x → R x (with_reader (1 + length b.ledger.users) name x)
  Suits (Append place messages) = (ms : List Message) (x : Contents) → R x (with_messages ms x)
  Suits (Spread posts) = (ms : List Message) (x : Contents) → R x (with_messages ms x)
  Suits (Kill place number) = (x : Contents) → has_live number x.conference.slots ≡ true → R x (with_deleted number x)
  Suits (Offer user highs) = Unit {0}
  Suits (Acknowledge user packet now) = (name : List ℕ) (high : ℕ) (x : Contents) → R x (with_acknowledged user name high now x)
  Suits (Upload user digest refused posts) = (ms : List Message) (x : Contents) → R x (with_messages ms x)

  zip_with : (l : Ledger) (bases : List Contents) → shapes_of l ≡ shapes_of b.ledger → shapes_in bases ≡ shapes_in (contents_of b) → AllZip R (contents_of b) bases → AllZip R (contents_of b) (contents_of (board_with l bases))
  zip_with l bases same shapes zip = subst (AllZip R (contents_of b)) (sym (contents_with b whole l bases same shapes)) zip

  -- ---- a user more
  one_member : (u : User) (place : ℕ) (kind : Kind) (c : ConferenceContents) → ((x : Contents) → IsEven x → R x (with_reader (1 + length b.ledger.users) u.name x)) → IsEven (record { shape = shape_of b.ledger place kind; conference = c })
      → R (record { shape = shape_of b.ledger place kind; conference = c }) (record { shape = shape_of (one_more u b.ledger) place kind; conference = joined_in u.members place c })
  one_member u place kind c joined even = subst (λ (rs : List Reader). R old (with_readers rs (joined_in u.members place c))) (sym (readers_more place 1 b.ledger.users u)) (by (eqb (bit_at u.members place) 1))
    where
      with_readers : List Reader → ConferenceContents → Contents
      with_readers rs conference = record { shape = record { place = place; created = b.ledger.created; kind = kind; readers = rs }; conference = conference }

      readers : List Reader
      readers = readers_from place 1 b.ledger.users

      old : Contents
      old = with_readers readers c

      by : (member : Bool) → R old (with_readers (readers ++ cond member (record { id = 1 + length b.ledger.users; name = u.name } ∷ []) []) (cond member (record c { pointers = c.pointers ++ 0 ∷ [] }) c))
      by true = joined old even
      by false = subst (λ (rs : List Reader). R old (with_readers rs c)) (sym (append-nil readers)) (itself old)

  zip_joined : (u : User) → ((x : Contents) → IsEven x → R x (with_reader (1 + length b.ledger.users) u.name x)) → (place : ℕ) (cs : List SetupConference) (conferences : List ConferenceContents)
      → ((k : ℕ) (x : Contents) → slice_get (contents (shapes_from b.ledger place cs) conferences) k ≡ Some x → IsEven x)
      → AllZip R (contents (shapes_from b.ledger place cs) conferences) (contents (shapes_from (one_more u b.ledger) place cs) (joined_from u.members place conferences))
  zip_joined u joined place [] conferences even = tt
  zip_joined u joined place (s ∷ cs) [] even = tt
  zip_joined u joined place (s ∷ cs) (c ∷ conferences) even = (one_member u place s.kind c joined (even 0 _ refl), zip_joined u joined (place + 1) cs conferences (λ k x here. even (suc k) x here))

  zip_member : (u : User) → ((x : Contents) → IsEven x → R x (with_reader (1 + length b.ledger.users) u.name x)) → AllZip R (contents_of b) (contents_of (with_member u b))
  zip_member u joined = zip_joined u joined 0 b.ledger.setup.conferences b.conferences whole.even

  -- ---- one base changed
  shapes_set : (bases : List Contents) (k : ℕ) (x y : Contents) → slice_get bases k ≡ Some x → y.shape ≡ x.shape → shapes_in (set bases k y) ≡ shapes_in bases
  shapes_set [] k x y here same = refl
  shapes_set (z ∷ bases) zero x y here same = ap (λ (s : Shape). s ∷ shapes_in bases) (same ∙ ap (λ (c : Contents). c.shape) (sym (same_Some z x here)))
  shapes_set (z ∷ bases) (suc k) x y here same = ap (λ (ss : List Shape). z.shape ∷ ss) (shapes_set bases k x y here same)

  pub zip_one : (place : ℕ) (f : Contents → Contents) → ((x : Contents) → (f x).shape ≡ x.shape) → ((x : Contents) → R x (f x)) → AllZip R (contents_of b) (contents_of (with_base place (option_map f (base_at place b)) b))
  zip_one place f shape is = by (base_at place b) refl
    where
      by : (o : Option Contents) → base_at place b ≡ o → AllZip R (contents_of b) (contents_of (with_base place (option_map f o) b))
      by None none = zip_itself R itself (contents_of b)
      by (Some x) here = zip_with b.ledger (set (contents_of b) place (f x)) refl (shapes_set (contents_of b) place x (f x) here (shape x)) (zip_set R itself (contents_of b) place x (f x) here (is x))

  killed_shape : (number : ℕ) (x : Contents) → (with_killed number x).shape ≡ x.shape
  killed_shape number x = by (has_live number x.conference.slots)
    where
      by : (live : Bool) → (cond live (with_deleted number x) x).shape ≡ x.shape
      by true = refl
      by false = refl

  killed_is : (number : ℕ) → ((x : Contents) → has_live number x.conference.slots ≡ true → R x (with_deleted number x)) → (x : Contents) → R x (with_killed number x)
  killed_is number deleted x = by (has_live number x.conference.slots) refl
    where
      by : (live : Bool) → has_live number x.conference.slots ≡ live → R x (cond live (with_deleted number x) x)
      by true is = deleted x is
      by false is = itself x

  -- ---- messages at the ends
  posted_shapes : (posts : List (ℕ × Message)) (place : ℕ) (bases : List Contents) → shapes_in (all_posted b posts place bases) ≡ shapes_in bases
  posted_shapes posts place [] = refl
  posted_shapes posts place (x ∷ bases) = λ i. shape_stays x (all_identified (msgid_in place b) (length x.conference.slots + 1) (posts_in place posts)) i ∷ posted_shapes posts (place + 1) bases i

  zip_posted : (posts : List (ℕ × Message)) → ((ms : List Message) (x : Contents) → R x (with_messages ms x)) → (place : ℕ) (bases : List Contents) → AllZip R bases (all_posted b posts place bases)
  zip_posted posts more place [] = tt
  zip_posted posts more place (x ∷ bases) = (more (all_identified (msgid_in place b) (length x.conference.slots + 1) (posts_in place posts)) x, zip_posted posts more (place + 1) bases)

  -- ---- a packet acknowledged
  zip_read : (user now : ℕ) (name : List ℕ) → ((high : ℕ) (x : Contents) → R x (with_acknowledged user name high now x)) → (bases : List Contents) (highs : List ℕ) → AllZip R bases (all_read user name now bases highs)
  zip_read user now name read [] highs = tt
  zip_read user now name read (x ∷ bases) [] = zip_itself R itself (x ∷ bases)
  zip_read user now name read (x ∷ bases) (high ∷ highs) = (by (is_high_above high (pointer_of user x.shape.readers x.conference.pointers)), zip_read user now name read bases highs)
    where
      by : (above : Bool) → R x (cond above (with_acknowledged user name high now x) x)
      by true = read high x
      by false = itself x

  -- ---- any change
  pub zipped : (change : Change) → Suits change → AllZip R (contents_of b) (contents_of (changed change b))
  zipped (Enroll name net members) suits = zip_member (new_user name net members) suits
  zipped (Append place messages) suits =
      zip_one place (with_identified (msgid_in place b) messages) (λ x. shape_stays x (all_identified (msgid_in place b) (length x.conference.slots + 1) messages)) (λ x. suits (all_identified (msgid_in place b) (length x.conference.slots + 1) messages) x)
  zipped (Spread posts) suits = zip_with b.ledger (all_posted b posts 0 (contents_of b)) refl (posted_shapes posts 0 (contents_of b)) (zip_posted posts suits 0 (contents_of b))
  zipped (Kill place number) suits = zip_one place (with_killed number) (killed_shape number) (killed_is number suits)
  zipped (Offer user highs) suits = by (user_of user b) refl
    where
      by : (o : Option User) → user_of user b ≡ o → AllZip R (contents_of b) (contents_of (for_user (offered_to user highs) o b))
      by None none = zip_itself R itself (contents_of b)
      by (Some u) here = subst (λ (ss : List Shape). AllZip R (contents_of b) (contents ss b.conferences)) (sym (shapes_stay b.ledger user u (with_offer highs u) (user_there b user u here) (record { name = refl; members = refl }))) (zip_itself R itself (contents_of b))
  zipped (Acknowledge user packet now) suits = after_ack (λ (c : Board). AllZip R (contents_of b) (contents_of c)) user packet now b (zip_itself R itself (contents_of b))
      (λ u here o. zip_with (with_user_replaced user (without_offer o.number u) b.ledger) (all_read user u.name now (contents_of b) o.highs)
      (shapes_stay b.ledger user u (without_offer o.number u) (user_there b user u here) (record { name = refl; members = refl }))
      (all_shapes user u.name now (contents_of b) o.highs) (zip_read user now u.name (suits u.name) (contents_of b) o.highs))
  zipped (Upload user digest refused posts) suits =
      zip_with (with_record (upload_record user digest refused posts) b.ledger) (all_posted b posts 0 (contents_of b)) refl (posted_shapes posts 0 (contents_of b)) (zip_posted posts suits 0 (contents_of b))
