use Rattle.std.proofs.Common.{◌≡◌, Bool, Bor, Option, Some, None, refl, sym, ap, ◌∙◌, subst, arith}
use Rattle.std.specs.Prelude.{◌↔◌, IsTrue, is_some}
use Rattle.std.specs.Option.{option_copied}
use Rattle.board_layout.specs.Valid.{IsBoard}
use Rattle.open_offers.specs.declared.offer.OpenOffer.{OpenOffer}
use Rattle.offer_changes.proofs.FitLaws.{offer_kept}
use Rattle.offer_changes.specs.Changed.{acknowledged, HasOffer, offer_in}
use Rattle.offer_changes.proofs.fits.fits_acknowledgement.Goals as goal

-- there is an offer where there is a reference to it
some_copied : (found : Option (Bor OpenOffer)) → is_some found ≡ is_some (option_copied found)
some_copied None = refl
some_copied (Some o) = refl

pub returns-in-Some : goal.returns-in-Some
returns-in-Some c =
    let same : c.is_some.result ≡ is_some (offer_in c.args.packet c.in-Some.user.now.offers) = c.is_some.ensures ∙ (some_copied c.open_offer.result ∙ ap is_some c.open_offer.ensures) in
    subst (λ (yes : Bool). IsTrue yes ↔ (HasOffer c.args.user c.args.packet c.args.board.now × IsBoard (acknowledged c.args.user c.args.packet c.args.now c.args.board.now))) (sym same)
    (offer_kept c.args.board.now c.args.user c.args.packet c.args.now c.user_at.ensures.board (omega arith) c.in-Some.user.now (sym c.in-Some.ensures.user))
