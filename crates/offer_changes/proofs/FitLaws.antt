-- A packet may be offered to a user, and acknowledged by him, just where what is tested of him and of its highs holds.
use Rattle.std.proofs.Common.{◌≡◌, ℕ, ◌<◌, ◌^◌, Bool, List, Option, Some, None, refl, sym, ◌∙◌, subst}
use Rattle.std.specs.Prelude.{◌↔◌, IsSome, IsSomeAnd, IsTrue, is_some}
use Rattle.board_layout.specs.Board.{Board}
use Rattle.board_layout.specs.Valid.{IsBoard}
use Rattle.board_ledger.specs.declared.user.User.{User}
use Rattle.offer_changes.proofs.AcknowledgeLaws.{acknowledged_board}
use Rattle.offer_changes.proofs.OfferLaws.{offer_is, offer_may, offer_there}
use Rattle.offer_changes.proofs.UserLaws.{user_there}
use Rattle.board_layout.specs.Lookups.{user_of}
use Rattle.offer_changes.specs.Changed.{acknowledged, offer_in, offer_made, HasOffer, HasUser, MayOffer}
use Rattle.offer_changes.specs.Highs.{may_have}

-- ---- the user
some_and : {A : Type 0} (P : A → Type 0) (o : Option A) → IsSomeAnd o P → IsSome o
some_and P None is = absurd is
some_and P (Some x) is = refl

pub may_has : (id : ℕ) (b : Board) → MayOffer id b → HasUser id b
may_has id b may = some_and (λ (u : User). u.last < 0xFFFF_FFFF) (user_of id b) may

pub offer_has : (id packet : ℕ) (b : Board) → HasOffer id packet b → HasUser id b
offer_has id packet b has = some_and (λ (u : User). IsSome (offer_in packet u.offers)) (user_of id b) has

-- ---- an offer
pub offer_fits : (b : Board) (id : ℕ) (highs : List ℕ) → IsBoard b → (u : User) (passes : Bool) → user_of id b ≡ Some u → u.last < 0xFFFF_FFFF → passes ≡ may_have b u highs → IsTrue passes ↔ (MayOffer id b × IsBoard (offer_made id highs b))
offer_fits b id highs ok u passes here more is = (
  λ yes. (
    subst (λ (o : Option User). IsSomeAnd o (λ (v : User). v.last < 0xFFFF_FFFF)) (sym here) more,
    subst IsBoard (sym (offer_there b id u highs here)) (offer_is b id u highs (user_there b id u here) ok more (sym is ∙ yes)),
  ),
  λ both. is ∙ offer_may b id u highs (user_there b id u here) ok (subst IsBoard (offer_there b id u highs here) both.1),
)

-- ---- its acknowledgement
pub offer_kept : (b : Board) (id packet now : ℕ) → IsBoard b → now < 2 ^ 32 → (u : User) → user_of id b ≡ Some u → IsTrue (is_some (offer_in packet u.offers)) ↔ (HasOffer id packet b × IsBoard (acknowledged id packet now b))
offer_kept b id packet now ok small u here = (
  λ yes. (subst (λ (o : Option User). IsSomeAnd o (λ (v : User). IsSome (offer_in packet v.offers))) (sym here) yes, acknowledged_board b id packet now small ok),
  λ both. subst (λ (o : Option User). IsSomeAnd o (λ (v : User). IsSome (offer_in packet v.offers))) here both.0,
)
