-- Open offers of a user: which were there before one is made or goes, the one of a number, and the board without it.
use Rattle.std.proofs.Common.{◌≡◌, ◌⊎◌, ⊎_elim, inl, inr, ℕ, ◌+◌, ◌-◌, Bool, true, false, cond, not, ◌||◌, eqb, List, [], ◌∷◌, ◌++◌, length, Option, Some, None, refl, sym, ap, ◌∙◌, subst}
use Rattle.std.specs.Prelude.{option_map, unwrap_or}
use Rattle.std.specs.List.{list_any}
use Rattle.std.proofs.lemmas.Bool.{eqb-true, false≢true}
use Rattle.board_layout.specs.Board.{Board}
use Rattle.board_layout.specs.Lookups.{user_of}
use Rattle.board_laws.proofs.Elements.{In, from_drop, from_filter, in_either}
use Rattle.open_offers.specs.declared.offer.OpenOffer.{OpenOffer}
use Rattle.board_ledger.specs.declared.user.User.{User}
use Rattle.cmd_messages.specs.mail_board.Readers.{has_open, is_offered}
use Rattle.offer_changes.specs.Changed.{acknowledged, for_user, offer_in, read_by, read_offer, with_offer, without_offer}

-- ---- lists of offers
-- the offer of a number among offers
record IsFound (packet : ℕ) (offers : List OpenOffer) : Type 0 where
  pub offer : OpenOffer
  pub found : offer_in packet offers ≡ Some offer
  pub among : In offer offers
  pub number : offer.number ≡ packet

found_in : (packet : ℕ) (offers : List OpenOffer) → list_any (λ o. eqb o.number packet) offers ≡ true → IsFound packet offers
found_in packet [] is = absurd (false≢true is)
found_in packet (x ∷ offers) is = by (found_in packet offers) (eqb x.number packet) refl is
  where
    further : IsFound packet offers → eqb x.number packet ≡ false → IsFound packet (x ∷ offers)
    further later test = record {
      offer = later.offer;
      found = ap (λ (t : Bool). cond t (Some x) (offer_in packet offers)) test ∙ later.found;
      among = inr later.among;
      number = later.number;
    }

    by : (list_any (λ o. eqb o.number packet) offers ≡ true → IsFound packet offers) → (t : Bool) → eqb x.number packet ≡ t → (t || list_any (λ o. eqb o.number packet) offers) ≡ true → IsFound packet (x ∷ offers)
    by rest true test any = record {
      offer = x;
      found = ap (λ (t : Bool). cond t (Some x) (offer_in packet offers)) test;
      among = inl refl;
      number = eqb-true x.number packet test;
    }
    by rest false test any = further (rest any) test

-- ---- the offers of a user
-- one that is open where one more is made was there, or is that one
pub made_or_there : (highs : List ℕ) (u : User) (o : OpenOffer) → In o (with_offer highs u).offers → In o u.offers ⊎ (record { number = u.last + 1; highs = highs } ≡ o)
made_or_there highs u o is = ⊎_elim (λ was. inl was) last (in_either o u.offers (made ∷ []) (from_drop (length (u.offers ++ made ∷ []) - 4) o (u.offers ++ made ∷ []) is))
  where
    made : OpenOffer
    made = record { number = u.last + 1; highs = highs }

    last : In o (made ∷ []) → In o u.offers ⊎ (made ≡ o)
    last (inl same) = inr same
    last (inr none) = absurd none

-- one that is open where one goes was there
pub there_before : (packet : ℕ) (u : User) (o : OpenOffer) → In o (without_offer packet u).offers → In o u.offers
there_before packet u o is = (from_filter (λ (p : OpenOffer). not (eqb p.number packet)) o u.offers is).0

-- the offer is an open one of the user, where there is one
abbrev pub IsOpenOf : OpenOffer → Option User → Type 0
IsOpenOf o None = ⊥
IsOpenOf o (Some u) = In o u.offers

pub open_user : (o : OpenOffer) (found : Option User) → IsOpenOf o found → (u : User) × (found ≡ Some u)
open_user o None is = absurd is
open_user o (Some u) is = (u, refl)

-- the user of an id has an open offer of this number
pub record IsOffered (id packet : ℕ) (b : Board) : Type 0 where
  pub u : User
  pub user : user_of id b ≡ Some u
  pub offer : OpenOffer
  pub found : offer_in packet u.offers ≡ Some offer
  pub among : IsOpenOf offer (user_of id b)
  pub number : offer.number ≡ packet

pub offer_there : (id packet : ℕ) (b : Board) → is_offered id packet b ≡ true → IsOffered id packet b
offer_there id packet b is = by (user_of id b) refl is
  where
    by : (o : Option User) → user_of id b ≡ o → has_open packet o ≡ true → IsOffered id packet b
    by None none any = absurd (false≢true any)
    by (Some u) here any = of (found_in packet u.offers any)
      where
        of : IsFound packet u.offers → IsOffered id packet b
        of is = record { u = u; user = here; offer = is.offer; found = is.found; among = subst (IsOpenOf is.offer) (sym here) is.among; number = is.number }

-- ---- boards
-- what holds of a board and of any on which the user has acknowledged an offer holds where he acknowledges a packet
pub after_ack : (P : Board → Type 0) (id packet now : ℕ) (b : Board) → P b → ((u : User) → user_of id b ≡ Some u → (o : OpenOffer) → P (read_offer id now u o b)) → P (acknowledged id packet now b)
after_ack P id packet now b same read = by (user_of id b) refl
  where
    by_offer : (u : User) → user_of id b ≡ Some u → (o : Option OpenOffer) → P (unwrap_or (option_map (λ (p : OpenOffer). read_offer id now u p b) o) b)
    by_offer u here None = same
    by_offer u here (Some o) = read u here o

    by : (o : Option User) → user_of id b ≡ o → P (for_user (read_by id packet now) o b)
    by None none = same
    by (Some u) here = by_offer u here (offer_in packet u.offers)

-- the board on which he has acknowledged an offer that is open
pub ack_is : (id packet now : ℕ) (b : Board) (u : User) (o : OpenOffer) → user_of id b ≡ Some u → offer_in packet u.offers ≡ Some o → acknowledged id packet now b ≡ read_offer id now u o b
ack_is id packet now b u o here found = ap (λ (m : Option User). for_user (read_by id packet now) m b) here ∙ ap (λ (m : Option OpenOffer). unwrap_or (option_map (λ (p : OpenOffer). read_offer id now u p b) m) b) found
