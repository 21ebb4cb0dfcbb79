use Rattle.std.proofs.Common.{◌≡◌, ap, ◌∙◌, subst, arith}
use Rattle.board_layout.specs.Board.{Board}
use Rattle.board_layout.specs.Layout.{board_size}
use Rattle.board_layout.specs.Valid.{IsBoard}
use Rattle.mail_board.specs.Changes.{changed, Exists}
use Rattle.mail_board.specs.Held.{HeldBoard}
use Rattle.mail_board.specs.declared.change.Change.{Change}
use Rattle.offer_changes.proofs.AcknowledgeLaws.{acknowledged_size}
use Rattle.offer_changes.proofs.OfferLaws.{offered_size}
use Rattle.post_changes.proofs.slot_changes.DeleteLaws.{deleted_size}
use Rattle.mail_board.proofs.board.Board.size_after.Goals as goal

pub returns-in-Kill : goal.returns-in-Kill
returns-in-Kill c =
    let b : Board = c.args.self.now.board in
    let held : c.self.inside.stored ≡ b = ap (λ (h : HeldBoard). h.board) c.self.view_is in
    let ok : IsBoard b = subst IsBoard held c.size_of.ensures.board in
    let same : board_size (changed c.args.change.now b) ≡ board_size b = ap (λ (k : Change). board_size (changed k b)) c.in-Kill.is ∙ deleted_size b c.in-Kill.place c.in-Kill.number ok in
    omega (arith, c.size_of.ensures.size, ap board_size held, same, ok.small)

pub returns-in-Offer : goal.returns-in-Offer
returns-in-Offer c =
    let b : Board = c.args.self.now.board in
    let held : c.self.inside.stored ≡ b = ap (λ (h : HeldBoard). h.board) c.self.view_is in
    let ok : IsBoard b = subst IsBoard held c.size_of-in-Offer.ensures.board in
    let many = subst (λ (k : Change). Exists k b) c.in-Offer.is c.requires in
    let same : board_size (changed c.args.change.now b) ≡ board_size b = ap (λ (k : Change). board_size (changed k b)) c.in-Offer.is ∙ offered_size b c.in-Offer.user c.in-Offer.highs ok many.1 in
    omega (arith, c.size_of-in-Offer.ensures.size, ap board_size held, same, ok.small)

pub returns-in-Acknowledge : goal.returns-in-Acknowledge
returns-in-Acknowledge c =
    let b : Board = c.args.self.now.board in
    let held : c.self.inside.stored ≡ b = ap (λ (h : HeldBoard). h.board) c.self.view_is in
    let ok : IsBoard b = subst IsBoard held c.size_of-in-Acknowledge.ensures.board in
    let same : board_size (changed c.args.change.now b) ≡ board_size b = ap (λ (k : Change). board_size (changed k b)) c.in-Acknowledge.is ∙ acknowledged_size b c.in-Acknowledge.user c.in-Acknowledge.packet c.in-Acknowledge.now ok in
    omega (arith, c.size_of-in-Acknowledge.ensures.size, ap board_size held, same, ok.small)
