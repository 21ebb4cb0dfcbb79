-- The user of an id after a change.
use Rattle.std.proofs.Common.{◌≤◌, ◌≡◌, ◌≢◌, ℕ, zero, suc, ◌-◌, Bool, false, cond, eqb, List, [], ◌∷◌, ◌++◌, set, Option, Some, None, refl, sym, ap, ◌∙◌, subst, arith}
use Rattle.std.specs.Prelude.{slice_get}
use Rattle.std.proofs.lemmas.Option.{none-some, same_Some}
use Rattle.std.proofs.lemmas.Bool.{cond-false, ne_eqb}
use Rattle.post_changes.specs.board_changes.Changed.{new_user, with_base}
use Rattle.board_layout.specs.Board.{Board}
use Rattle.board_layout.specs.Lookups.{user_of}
use Rattle.board_laws.proofs.Elements.{In}
use Rattle.board_laws.proofs.OpenOffers.{IsOpenOf, after_ack, there_before}
use Rattle.board_ledger.specs.declared.ledger.Ledger.{Ledger}
use Rattle.open_offers.specs.declared.offer.OpenOffer.{OpenOffer}
use Rattle.board_ledger.specs.declared.user.User.{User}
use Rattle.jam_base.specs.Contents.{Contents}
use Rattle.cmd_messages.specs.mail_board.Changes.{changed}
use Rattle.cmd_messages.specs.mail_board.declared.change.Change.{Change}
use Rattle.cmd_messages.specs.mail_board.declared.change.Change.TheVariants.{Enroll, Append, Spread, Kill, Offer, Acknowledge, Upload}
use Rattle.offer_changes.proofs.UserLaws.{id_above, user_there}
use Rattle.offer_changes.specs.Changed.{for_user, offered_to, read_offer, with_offer, without_offer}

-- he has his name and his conferences, and his last packet isn't an earlier one
pub record IsSameUser (u v : User) : Type 0 where
  pub name : v.name ≡ u.name
  pub members : v.members ≡ u.members
  pub last : u.last ≤ v.last

-- the user who was there is there
abbrev pub UserFollows : Option User → Option User → Type 0
UserFollows None new = Unit {0}
UserFollows (Some u) None = ⊥
UserFollows (Some u) (Some v) = IsSameUser u v

-- each open offer of a user is one of his that was there
abbrev pub KeepsOffers : Option User → Option User → Type 0
KeepsOffers old new = (o : OpenOffer) → IsOpenOf o new → IsOpenOf o old

himself : (u : User) → IsSameUser u u
himself u = record { name = refl; members = refl; last = omega arith }

pub same_user : (o : Option User) → UserFollows o o
same_user None = tt
same_user (Some u) = himself u

pub same_offers : (found : Option User) → KeepsOffers found found
same_offers found o is = is

-- ---- lists of users
behind : (users : List User) (k : ℕ) (new : User) → UserFollows (slice_get users k) (slice_get (users ++ new ∷ []) k)
behind [] k new = tt
behind (u ∷ users) zero new = himself u
behind (u ∷ users) (suc k) new = behind users k new

behind_offers : (users : List User) (k : ℕ) (new : User) → new.offers ≡ [] → KeepsOffers (slice_get users k) (slice_get (users ++ new ∷ []) k)
behind_offers [] zero new none o is = subst (In o) none is
behind_offers [] (suc k) new none o is = is
behind_offers (u ∷ users) zero new none o is = is
behind_offers (u ∷ users) (suc k) new none o is = behind_offers users k new none o is

put : (users : List User) (place k : ℕ) (u v : User) → slice_get users place ≡ Some u → IsSameUser u v → UserFollows (slice_get users k) (slice_get (set users place v) k)
put [] place k u v here alike = tt
put (w ∷ users) zero zero u v here alike = subst (λ (x : User). IsSameUser x v) (sym (same_Some w u here)) alike
put (w ∷ users) zero (suc k) u v here alike = same_user (slice_get users k)
put (w ∷ users) (suc place) zero u v here alike = himself w
put (w ∷ users) (suc place) (suc k) u v here alike = put users place k u v here alike

put_other : (users : List User) (place k : ℕ) (v : User) → k ≢ place → slice_get (set users place v) k ≡ slice_get users k
put_other [] place k v apart = refl
put_other (w ∷ users) zero zero v apart = absurd (apart refl)
put_other (w ∷ users) zero (suc k) v apart = refl
put_other (w ∷ users) (suc place) zero v apart = refl
put_other (w ∷ users) (suc place) (suc k) v apart = put_other users place k v (λ same. apart (ap suc same))

pub put_there : (users : List User) (place : ℕ) (u v : User) → slice_get users place ≡ Some u → slice_get (set users place v) place ≡ Some v
put_there [] place u v here = absurd (none-some u here)
put_there (w ∷ users) zero u v here = refl
put_there (w ∷ users) (suc place) u v here = put_there users place u v here

put_offers : (users : List User) (place k : ℕ) (u v : User) → slice_get users place ≡ Some u → KeepsOffers (Some u) (Some v) → KeepsOffers (slice_get users k) (slice_get (set users place v) k)
put_offers [] place k u v here keeps o is = is
put_offers (w ∷ users) zero zero u v here keeps o is = subst (λ (x : User). In o x.offers) (sym (same_Some w u here)) (keeps o is)
put_offers (w ∷ users) zero (suc k) u v here keeps o is = is
put_offers (w ∷ users) (suc place) zero u v here keeps o is = is
put_offers (w ∷ users) (suc place) (suc k) u v here keeps o is = put_offers users place k u v here keeps o is

-- ---- the user of an id
-- what holds of users in each place holds of users by id
by_id : (R : Option User → Option User → Type 0) → ((o : Option User) → R o o) → (id : ℕ) (b c : Board) → ((k : ℕ) → id ≡ suc k → R (slice_get b.ledger.users k) (slice_get c.ledger.users k)) → R (user_of id b) (user_of id c)
by_id R itself zero b c each = itself None
by_id R itself (suc k) b c each =
    let back : suc k - 1 ≡ k = omega arith in
    subst (λ (n : ℕ). R (user_at n b) (user_at n c)) (sym back) (subst (λ (t : Bool). R (cond t None (slice_get b.ledger.users k)) (cond t None (slice_get c.ledger.users k))) (sym (some k)) (each k refl))
  where
    user_at : ℕ → Board → Option User
    user_at n b = cond (eqb (suc k) 0) None (slice_get b.ledger.users n)

    some : (k : ℕ) → eqb (suc k) 0 ≡ false
    some k = ne_eqb (suc k) 0 (λ e. omega (arith, e))

-- a change of one conference leaves the ledger
pub same_ledger : (place : ℕ) (o : Option Contents) (b : Board) → (with_base place o b).ledger ≡ b.ledger
same_ledger place None b = refl
same_ledger place (Some base) b = refl

module _ (id : ℕ) (b : Board) where
  pub same_users : (c : Board) → c.ledger.users ≡ b.ledger.users → user_of id c ≡ user_of id b
  same_users c same = ap (λ (users : List User). cond (eqb id 0) None (slice_get users (id - 1))) same

  -- ---- every change leaves the users who are there
  pub user_follows : (change : Change) → UserFollows (user_of id b) (user_of id (changed change b))
  user_follows (Enroll name net members) = by_id UserFollows same_user id b (changed (Enroll name net members) b) (λ k is. behind b.ledger.users k (new_user name net members))
  user_follows (Append place messages) = subst (UserFollows (user_of id b)) (sym (same_users (changed (Append place messages) b) (ap (λ (l : Ledger). l.users) (same_ledger place _ b)))) (same_user (user_of id b))
  user_follows (Spread posts) = same_user (user_of id b)
  user_follows (Kill place number) = subst (UserFollows (user_of id b)) (sym (same_users (changed (Kill place number) b) (ap (λ (l : Ledger). l.users) (same_ledger place _ b)))) (same_user (user_of id b))
  user_follows (Offer user highs) = by (user_of user b) refl
    where
      by : (o : Option User) → user_of user b ≡ o → UserFollows (user_of id b) (user_of id (for_user (offered_to user highs) o b))
      by None none = same_user (user_of id b)
      by (Some u) here = by_id UserFollows same_user id b (offered_to user highs u b) (λ k is. put b.ledger.users (user - 1) k u (with_offer highs u) (user_there b user u here) (record { name = refl; members = refl; last = omega arith }))
  user_follows (Acknowledge user packet now) = after_ack (λ (c : Board). UserFollows (user_of id b) (user_of id c)) user packet now b (same_user (user_of id b))
      (λ u here o. by_id UserFollows same_user id b (read_offer user now u o b)
      (λ k is. put b.ledger.users (user - 1) k u (without_offer o.number u) (user_there b user u here) (record { name = refl; members = refl; last = omega arith })))
  user_follows (Upload user digest refused posts) = same_user (user_of id b)

  -- ---- and their offers, but for an offer to the user himself
  abbrev pub OffersTo : Change → Type 0
  OffersTo (Enroll name net members) = ⊥
  OffersTo (Append place messages) = ⊥
  OffersTo (Spread posts) = ⊥
  OffersTo (Kill place number) = ⊥
  OffersTo (Offer user highs) = user ≡ id
  OffersTo (Acknowledge user packet now) = ⊥
  OffersTo (Upload user digest refused posts) = ⊥

  pub offers_stay : (change : Change) → (OffersTo change → ⊥) → KeepsOffers (user_of id b) (user_of id (changed change b))
  offers_stay (Enroll name net members) apart = by_id KeepsOffers same_offers id b (changed (Enroll name net members) b) (λ k is. behind_offers b.ledger.users k (new_user name net members) refl)
  offers_stay (Append place messages) apart = subst (KeepsOffers (user_of id b)) (sym (same_users (changed (Append place messages) b) (ap (λ (l : Ledger). l.users) (same_ledger place _ b)))) (same_offers (user_of id b))
  offers_stay (Spread posts) apart = same_offers (user_of id b)
  offers_stay (Kill place number) apart = subst (KeepsOffers (user_of id b)) (sym (same_users (changed (Kill place number) b) (ap (λ (l : Ledger). l.users) (same_ledger place _ b)))) (same_offers (user_of id b))
  offers_stay (Offer user highs) apart = by (user_of user b) refl
    where
      by : (o : Option User) → user_of user b ≡ o → KeepsOffers (user_of id b) (user_of id (for_user (offered_to user highs) o b))
      by None none = same_offers (user_of id b)
      by (Some u) here = by_id KeepsOffers same_offers id b (offered_to user highs u b)
          (λ k is. subst (KeepsOffers (slice_get b.ledger.users k)) (sym (put_other b.ledger.users (user - 1) k (with_offer highs u) (other u here k is))) (same_offers (slice_get b.ledger.users k)))
        where
          other : (u : User) → user_of user b ≡ Some u → (k : ℕ) → id ≡ suc k → k ≢ user - 1
          other u here k is same = let above = id_above b user u here in apart (omega (arith, above, is, same))
  offers_stay (Acknowledge user packet now) apart = after_ack (λ (c : Board). KeepsOffers (user_of id b) (user_of id c)) user packet now b (same_offers (user_of id b))
      (λ u here o. by_id KeepsOffers same_offers id b (read_offer user now u o b)
      (λ k is. put_offers b.ledger.users (user - 1) k u (without_offer o.number u) (user_there b user u here) (there_before o.number u)))
  offers_stay (Upload user digest refused posts) apart = same_offers (user_of id b)

  -- ---- the offer to the user himself
  pub offered_there : (highs : List ℕ) (u : User) → user_of id b ≡ Some u → user_of id (changed (Offer id highs) b) ≡ Some (with_offer highs u)
  offered_there highs u here =
      let is : changed (Offer id highs) b ≡ offered_to id highs u b = ap (λ (o : Option User). for_user (offered_to id highs) o b) here in
      ap (user_of id) is ∙ there id here
    where
      there : (id : ℕ) → user_of id b ≡ Some u → user_of id (offered_to id highs u b) ≡ Some (with_offer highs u)
      there zero here = absurd (none-some u here)
      there (suc k) here =
          cond-false (eqb (suc k) 0) None (slice_get (set b.ledger.users (suc k - 1) (with_offer highs u)) (suc k - 1)) (ne_eqb (suc k) 0 (λ e. omega (arith, e)))
          ∙ put_there b.ledger.users (suc k - 1) u (with_offer highs u) (user_there b (suc k) u here)

-- the user who was there, whose last packet isn't an earlier one
pub user_still : (o p : Option User) (u : User) → UserFollows o p → o ≡ Some u → (v : User) × (p ≡ Some v) × (u.last ≤ v.last)
user_still None p u follows there = absurd (none-some u there)
user_still (Some w) None u follows there = absurd follows
user_still (Some w) (Some v) u follows there = (v, refl, subst (λ (x : User). x.last ≤ v.last) (same_Some w u there) follows.last)
