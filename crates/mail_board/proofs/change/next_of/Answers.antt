use Rattle.std.proofs.Common.{List, ℕ, subst}
use Rattle.std.specs.Prelude.{IfOk}
use Rattle.post_changes.specs.board_changes.Change.{Becomes}
use Rattle.post_changes.specs.board_changes.Changed.{enrolled, new_user}
use Rattle.board_layout.specs.Board.{Board}
use Rattle.mail_board.specs.Changes.{changed, Fits}
use Rattle.mail_board.specs.declared.change.Change.{Change}
use Rattle.mail_board.specs.declared.change.Change.TheVariants.{Acknowledge, Enroll, Kill, Offer}
use Rattle.mail_board.proofs.EachRead.{acknowledged_own}
use Rattle.mail_board.proofs.OwnNext.{becomes_own, deleted_own, enrolled_own, offered_own}
use Rattle.mail_board.proofs.WriteBounds.{no_bound}
use Rattle.offer_changes.proofs.FitLaws.{may_has, offer_has}
use Rattle.mail_board.proofs.change.next_of.Goals as goal

pub offered-requires-clause-user : goal.offered-requires-clause-user
offered-requires-clause-user c =
    let fits = subst (λ (change : Change). Fits change c.args.stored.now) c.in-Offer.is c.requires in
    may_has c.in-Offer.user c.args.stored.now fits.0

pub acknowledged-requires : goal.acknowledged-requires
acknowledged-requires c =
    let fits = subst (λ (change : Change). Fits change c.args.stored.now) c.in-Acknowledge.is c.requires in
    offer_has c.in-Acknowledge.user c.in-Acknowledge.packet c.args.stored.now fits.0

-- ---- a change that adds no body
pub returns-in-Enroll-clause-becomes : goal.returns-in-Enroll-clause-becomes
returns-in-Enroll-clause-becomes c =
    let b : Board = c.args.stored.now in
    let change : Change = Enroll c.in-Enroll.name c.in-Enroll.net c.in-Enroll.members in
    let becomes = subst (λ (name : List ℕ). IfOk c.enrolled.result (Becomes b (enrolled name c.in-Enroll.net c.in-Enroll.members b))) c.as_slice.ensures.same c.enrolled.ensures.becomes in
    rw c.in-Enroll.is (becomes_own b (changed change b) c.enrolled.result (enrolled_own b c.ledger-ledger.ensures.outline (new_user c.in-Enroll.name c.in-Enroll.net c.in-Enroll.members)) becomes)

pub returns-in-Kill-clause-becomes : goal.returns-in-Kill-clause-becomes
returns-in-Kill-clause-becomes c =
    let b : Board = c.args.stored.now in
    rw c.in-Kill.is (becomes_own b (changed (Kill c.in-Kill.place c.in-Kill.number) b) c.deleted.result (deleted_own b c.ledger-ledger.ensures.outline c.in-Kill.place c.in-Kill.number) c.deleted.ensures.becomes)

pub returns-in-Offer-clause-becomes : goal.returns-in-Offer-clause-becomes
returns-in-Offer-clause-becomes c =
    let b : Board = c.args.stored.now in
    rw c.in-Offer.is (becomes_own b (changed (Offer c.in-Offer.user c.in-Offer.highs) b) c.offered.result (offered_own b c.ledger-ledger.ensures.outline c.in-Offer.user c.in-Offer.highs) c.offered.ensures.becomes)

pub returns-in-Acknowledge-clause-becomes : goal.returns-in-Acknowledge-clause-becomes
returns-in-Acknowledge-clause-becomes c =
    let b : Board = c.args.stored.now in
    let change : Change = Acknowledge c.in-Acknowledge.user c.in-Acknowledge.packet c.in-Acknowledge.now in
    rw c.in-Acknowledge.is
    (becomes_own b (changed change b) c.acknowledged.result (acknowledged_own b c.ledger-ledger.ensures.outline c.in-Acknowledge.user c.in-Acknowledge.packet c.in-Acknowledge.now) c.acknowledged.ensures.becomes)

-- ---- a change that has no bound
pub returns-in-Enroll-clause-costs : goal.returns-in-Enroll-clause-costs
returns-in-Enroll-clause-costs c = rw c.in-Enroll.is (no_bound c.enrolled.result)

pub returns-in-Offer-clause-costs : goal.returns-in-Offer-clause-costs
returns-in-Offer-clause-costs c = rw c.in-Offer.is (no_bound c.offered.result)

pub returns-in-Acknowledge-clause-costs : goal.returns-in-Acknowledge-clause-costs
returns-in-Acknowledge-clause-costs c = rw c.in-Acknowledge.is (no_bound c.acknowledged.result)
