use Rattle.std.proofs.Common.{◌≡◌, sym, ap, ◌∙◌, subst}
use Rattle.std.specs.Prelude.{None}
use Rattle.board_changes.specs.Outlined.{LeadsEach}
use Rattle.board_layout.proofs.RenewedBases.{none_new}
use Rattle.board_layout.specs.Board.{Board}
use Rattle.board_layout.specs.Renewed.{contents_of, renewed}
use Rattle.board_ledger.specs.declared.user.User.{User}
use Rattle.offer_changes.proofs.AcknowledgeLaws.{read_open}
use Rattle.offer_changes.proofs.EachOffer.{stays_each}
use Rattle.offer_changes.proofs.OpenOffers.{found_itself}
use Rattle.offer_changes.specs.Changed.{acknowledged}
use Rattle.offer_changes.proofs.acknowledge.acknowledged.Goals as goal

pub offer_read-requires-clause-offer : goal.offer_read-requires-clause-offer
offer_read-requires-clause-offer c = found_itself c.args.packet c.in-Some.offer.now c.user_of-reader.result.now.offers (sym c.in-Some.ensures)

pub returns-in-None-clause-becomes : goal.returns-in-None-clause-becomes
returns-in-None-clause-becomes c =
    let b : Board = c.args.board.now in
    let u : User = c.user_of-reader.result.now in
    let stays : acknowledged c.args.user c.args.packet c.args.now b ≡ b = read_open b c.args.user c.args.packet c.args.now u None c.user_of-reader.ensures.user (sym c.in-None.ensures) in
    record {
      ledger = ap (λ (d : Board). d.ledger) (sym stays);
      bases = ap (renewed (contents_of b)) c.new.ensures ∙ (none_new (contents_of b) ∙ ap contents_of (sym stays));
    }

pub returns-in-None-clause-each : goal.returns-in-None-clause-each
returns-in-None-clause-each c =
    let b : Board = c.args.board.now in
    let u : User = c.user_of-reader.result.now in
    subst (LeadsEach b (acknowledged c.args.user c.args.packet c.args.now)) (sym c.new-in-None.ensures) (stays_each b c.args.user c.args.packet c.args.now u c.user_of-reader.ensures.user (sym c.in-None.ensures))
