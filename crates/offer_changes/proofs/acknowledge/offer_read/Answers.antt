use Rattle.std.proofs.Common.{◌≡◌, ℕ, ◌-◌, length, refl, sym, ap, ◌∙◌, subst, arith}
use Rattle.std.specs.Prelude.{slice_get}
use Rattle.std.proofs.lemmas.Option.{slice_get_within}
use Rattle.board_layout.specs.Board.{Board}
use Rattle.board_ledger.specs.UserPuts.{IsAsLong, user_puts}
use Rattle.board_ledger.specs.Valid.{IsLedger}
use Rattle.board_ledger.specs.declared.ledger.Ledger.{Ledger}
use Rattle.open_offers.specs.declared.offer.OpenOffer.{OpenOffer}
use Rattle.board_ledger.specs.declared.user.User.{User}
use Rattle.offer_changes.proofs.AcknowledgeLaws.{read_is}
use Rattle.offer_changes.proofs.EachOffer.{read_begun, read_leads}
use Rattle.offer_changes.proofs.PutLaws.{there_room}
use Rattle.offer_changes.proofs.UserLaws.{id_above, user_there}
use Rattle.offer_changes.specs.Changed.{read_offer, with_user_replaced, without_offer}
use Rattle.offer_changes.proofs.acknowledge.offer_read.Goals as goal

pub user_intent-requires-clause-above : goal.user_intent-requires-clause-above
user_intent-requires-clause-above c = id_above c.args.board.now c.args.id c.args.user.now c.requires.user

pub user_intent-requires-clause-next : goal.user_intent-requires-clause-next
user_intent-requires-clause-next c =
    let b : Board = c.args.board.now in
    let u : User = c.args.user.now in
    let next = read_is b c.args.id c.args.now u c.args.offer.now (user_there b c.args.id u c.requires.user) c.ledger-old.ensures.board c.requires.offer (omega arith) in
    subst IsLedger (λ i. with_user_replaced c.args.id (sym c.in_ok-next.ensures i) (sym c.ledger-old.ensures.ledger i)) next.ledger

pub user_intent-requires-clause-room : goal.user_intent-requires-clause-room
user_intent-requires-clause-room c =
    let b : Board = c.args.board.now in
    let u : User = c.args.user.now in
    let new : User = without_offer c.args.offer.now.number u in
    let is : IsAsLong (c.args.id - 1) new b.ledger = there_room (slice_get b.ledger.users (c.args.id - 1)) u new (user_there b c.args.id u c.requires.user) refl in
    subst (λ (l : Ledger). IsAsLong (c.args.id - 1) c.in_ok-next.next l) (sym c.ledger-old.ensures.ledger) (subst (λ (v : User). IsAsLong (c.args.id - 1) v b.ledger) (sym c.in_ok-next.ensures) is)

pub with_user-requires-clause-above : goal.with_user-requires-clause-above
with_user-requires-clause-above c = id_above c.args.board.now c.args.id c.args.user.now c.requires.user

pub with_user-requires-clause-within : goal.with_user-requires-clause-within
with_user-requires-clause-within c =
    let b : Board = c.args.board.now in
    let u : User = c.args.user.now in
    let within = slice_get_within b.ledger.users (c.args.id - 1) u (user_there b c.args.id u c.requires.user) in
    omega (arith, within, ap (λ (l : Ledger). length l.users) c.ledger-old.ensures.ledger)

-- the ledger that is made is that of the next board
made : (b : Board) (id now : ℕ) (u next : User) (o : OpenOffer) (was ledger : Ledger) → ledger ≡ with_user_replaced id next was → was ≡ b.ledger → next ≡ without_offer o.number u → ledger ≡ (read_offer id now u o b).ledger
made b id now u next o was ledger is same new = is ∙ (λ i. with_user_replaced id (new i) (same i))

pub bases_read-requires-clause-gathered : goal.bases_read-requires-clause-gathered
bases_read-requires-clause-gathered c =
    read_begun c.args.board.now c.args.id c.args.now c.args.user.now c.args.offer.now c.requires.user c.requires.offer c.ledger-old.ensures.board (omega arith) c.in_ok-intent.intent
    (c.in_ok-intent.ensures ∙ (λ i. user_puts (c.args.id - 1) (c.in_ok-next.ensures i) (c.ledger-old.ensures.ledger i)))

pub returns-clause-becomes : goal.returns-clause-becomes
returns-clause-becomes c =
    let b : Board = c.args.board.now in
    let u : User = c.args.user.now in
    let o : OpenOffer = c.args.offer.now in
    let ledger = made b c.args.id c.args.now u c.in_ok-next.next o c.ledger-old.result.now c.in_ok-ledger.ledger c.in_ok-ledger.ensures c.ledger-old.ensures.ledger c.in_ok-next.ensures in
    record { ledger = ledger; bases = c.in_ok-bases.ensures.bases }

pub returns-clause-each : goal.returns-clause-each
returns-clause-each c =
    read_leads c.args.board.now c.args.id c.args.now c.args.user.now c.args.offer.now c.requires.user c.requires.offer c.ledger-old.ensures.board (omega arith) c.bases_read.new.intent c.in_ok-bases.ensures.gathers
