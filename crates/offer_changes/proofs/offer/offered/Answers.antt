use Rattle.std.proofs.Common.{◌≡◌, ℕ, ◌-◌, List, length, refl, sym, ap, ◌∙◌, subst, arith}
use Rattle.std.specs.Prelude.{slice_get}
use Rattle.std.proofs.lemmas.Option.{slice_get_within}
use Rattle.board_layout.proofs.RenewedBases.{none_new}
use Rattle.board_layout.specs.Board.{Board}
use Rattle.board_layout.specs.Renewed.{contents_of, renewed}
use Rattle.board_layout.specs.Valid.{IsBoard}
use Rattle.board_ledger.specs.UserPuts.{IsAsLong, user_puts}
use Rattle.board_ledger.specs.Valid.{IsLedger}
use Rattle.board_ledger.specs.declared.ledger.Ledger.{Ledger}
use Rattle.board_ledger.specs.declared.user.User.{User}
use Rattle.offer_changes.proofs.EachOffer.{offered_each}
use Rattle.offer_changes.proofs.OfferLaws.{contents_stay, offer_last, offer_there}
use Rattle.offer_changes.proofs.PutLaws.{there_room}
use Rattle.offer_changes.proofs.UserLaws.{id_above, user_there}
use Rattle.offer_changes.specs.Changed.{offered_to, with_offer, with_user_replaced}
use Rattle.offer_changes.proofs.offer.offered.Goals as goal

pub with_offer-requires : goal.with_offer-requires
with_offer-requires c =
    let b : Board = c.args.board.now in
    let u : User = c.user_of.result.now in
    let next = subst IsBoard (offer_there b c.args.user u c.args.highs.now c.user_of.ensures.user) c.requires.next in
    offer_last b c.args.user u c.args.highs.now (user_there b c.args.user u c.user_of.ensures.user) next

pub user_intent-requires-clause-above : goal.user_intent-requires-clause-above
user_intent-requires-clause-above c = id_above c.args.board.now c.args.user c.user_of.result.now c.user_of.ensures.user

pub user_intent-requires-clause-next : goal.user_intent-requires-clause-next
user_intent-requires-clause-next c =
    let b : Board = c.args.board.now in
    let u : User = c.user_of.result.now in
    let next = subst IsBoard (offer_there b c.args.user u c.args.highs.now c.user_of.ensures.user) c.requires.next in
    subst IsLedger (λ i. with_user_replaced c.args.user (sym c.in_ok-next.ensures i) (sym c.ledger-old.ensures.ledger i)) next.ledger

pub user_intent-requires-clause-room : goal.user_intent-requires-clause-room
user_intent-requires-clause-room c =
    let b : Board = c.args.board.now in
    let u : User = c.user_of.result.now in
    let here = user_there b c.args.user u c.user_of.ensures.user in
    let is : IsAsLong (c.args.user - 1) (with_offer c.args.highs.now u) b.ledger = there_room (slice_get b.ledger.users (c.args.user - 1)) u (with_offer c.args.highs.now u) here refl in
    subst (λ (l : Ledger). IsAsLong (c.args.user - 1) c.in_ok-next.next l) (sym c.ledger-old.ensures.ledger) (subst (λ (v : User). IsAsLong (c.args.user - 1) v b.ledger) (sym c.in_ok-next.ensures) is)

pub with_user-requires-clause-above : goal.with_user-requires-clause-above
with_user-requires-clause-above c = id_above c.args.board.now c.args.user c.user_of.result.now c.user_of.ensures.user

pub with_user-requires-clause-within : goal.with_user-requires-clause-within
with_user-requires-clause-within c =
    let b : Board = c.args.board.now in
    let u : User = c.user_of.result.now in
    let within = slice_get_within b.ledger.users (c.args.user - 1) u (user_there b c.args.user u c.user_of.ensures.user) in
    omega (arith, within, ap (λ (l : Ledger). length l.users) c.ledger-old.ensures.ledger)

-- the ledger that is made is that of the next board
made : (b : Board) (id : ℕ) (u next : User) (highs : List ℕ) (was ledger : Ledger) → ledger ≡ with_user_replaced id next was → was ≡ b.ledger → next ≡ with_offer highs u → ledger ≡ (offered_to id highs u b).ledger
made b id u next highs was ledger is same new = is ∙ (λ i. with_user_replaced id (new i) (same i))

pub returns-clause-becomes : goal.returns-clause-becomes
returns-clause-becomes c =
    let b : Board = c.args.board.now in
    let u : User = c.user_of.result.now in
    let there = offer_there b c.args.user u c.args.highs.now c.user_of.ensures.user in
    let here = user_there b c.args.user u c.user_of.ensures.user in
    let ledger = made b c.args.user u c.in_ok-next.next c.args.highs.now c.ledger-old.result.now c.in_ok-ledger.ledger c.in_ok-ledger.ensures c.ledger-old.ensures.ledger c.in_ok-next.ensures in
    record {
      ledger = ledger ∙ ap (λ (d : Board). d.ledger) (sym there);
      bases = ap (renewed (contents_of b)) c.new.ensures ∙ (none_new (contents_of b) ∙ (sym (contents_stay b c.args.user u c.args.highs.now here) ∙ ap contents_of (sym there)));
    }

pub returns-clause-each : goal.returns-clause-each
returns-clause-each c =
    let b : Board = c.args.board.now in
    let u : User = c.user_of.result.now in
    let there = offer_there b c.args.user u c.args.highs.now c.user_of.ensures.user in
    offered_each b c.args.user u c.args.highs.now c.user_of.ensures.user (subst IsBoard there c.requires.next) c.in_ok-intent.intent
    (c.in_ok-intent.ensures ∙ (λ i. user_puts (c.args.user - 1) (c.in_ok-next.ensures i) (c.ledger-old.ensures.ledger i)))
