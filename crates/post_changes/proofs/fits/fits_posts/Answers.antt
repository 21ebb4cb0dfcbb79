use Rattle.std.proofs.Common.{true≢false, sym, ◌∙◌, subst, arith}
use Rattle.std.proofs.lemmas.Bool.{leb-true, le-leb}
use Rattle.board_layout.specs.Board.{Board}
use Rattle.board_layout.specs.Valid.{board_limit}
use Rattle.post_changes.proofs.FitLaws.{Fit, spread_bases, spread_fits}
use Rattle.post_changes.proofs.fits.fits_posts.Goals as goal

pub returns-then-fits_all : goal.returns-then-fits_all
returns-then-fits_all c =
    let b : Board = c.args.board.now in
    let fit : Fit b c.args.posts.now = subst (Fit b) c.as_slice.ensures (c.fits_all.ensures.fits.0 c.if-fits_all.true) in (
      λ small. (fit.0, spread_fits b c.args.posts.now c.fits_all.ensures.board fit.1 (omega (arith, c.size_with_posts.ensures, leb-true c.size_with_posts.result board_limit small))),
      λ both. le-leb c.size_with_posts.result board_limit (omega (arith, c.size_with_posts.ensures, both.1.small)),
    )

pub returns-else-fits_all : goal.returns-else-fits_all
returns-else-fits_all c =
    let b : Board = c.args.board.now in (
      λ yes. absurd (true≢false (sym yes ∙ c.if-fits_all.false)),
      λ both. c.fits_all.ensures.fits.1 (subst (Fit b) (sym c.as_slice.ensures) (both.0, spread_bases b c.args.posts.now c.fits_all.ensures.board both.1)),
    )
