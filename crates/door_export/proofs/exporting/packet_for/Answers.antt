use Rattle.std.proofs.Common.{◌≡◌, ℕ, List, sym, ◌∙◌, subst}
use Rattle.mail_board.specs.Changes.{Fits}
use Rattle.mail_board.specs.declared.change.Change.TheVariants.{Offer}
use Rattle.offered_packets.specs.Offered.{highs, offered}
use Rattle.door_export.proofs.ExportLaws.{last_small, may_export, offer_may_be}
use Rattle.door_export.proofs.exporting.packet_for.Goals as goal

pub returns-clause-fits : goal.returns-clause-fits
returns-clause-fits g c =
    let b = c.args.board.now.board in
    let ok = c.stored-stored.ensures.valid in
    let small = last_small b c.args.id c.args.user.now ok c.requires.user in
    let same : c.in_ok-highs_of.field-0 ≡ highs b (offered b c.args.id c.args.limit) = c.in_ok-highs_of.ensures ∙ (λ i. highs (c.stored-stored.ensures.board i) (c.in_ok-messages.ensures.offered i)) in
    subst (λ (numbers : List ℕ). Fits (Offer c.args.id numbers) b) (sym same)
    (offer_may_be b c.args.id c.args.limit c.args.user.now ok c.requires.user (may_export c.args.limit c.args.user.now small c.requires.may))
