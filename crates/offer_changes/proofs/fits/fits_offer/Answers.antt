use Rattle.std.proofs.Common.{sym, ap, ◌∙◌}
use Rattle.offer_changes.proofs.FitLaws.{offer_fits}
use Rattle.offer_changes.specs.Highs.{may_have}
use Rattle.offer_changes.proofs.fits.fits_offer.Goals as goal

pub returns-then-user-lt4294967295 : goal.returns-then-user-lt4294967295
returns-then-user-lt4294967295 c =
    offer_fits c.args.board.now c.args.user c.args.highs.now c.user_at.ensures.board c.in-Some.user.now c.may_have.result (sym c.in-Some.ensures.user) c.if-user-lt4294967295.true
    (c.may_have.ensures ∙ ap (may_have c.args.board.now c.in-Some.user.now) c.as_slice.ensures)
