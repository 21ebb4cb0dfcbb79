use Rattle.std.proofs.Common.{◌≡◌, true≢false, length, sym, ap, ◌∙◌, arith}
use Rattle.std.proofs.lemmas.Bool.{leb-true, le-leb}
use Rattle.board_changes.specs.Enrolling.{may_enroll}
use Rattle.board_changes.proofs.FitLaws.{board_fits, board_enrollable}
use Rattle.board_layout.specs.Board.{Board}
use Rattle.board_layout.specs.Valid.{board_limit}
use Rattle.board_ledger.specs.declared.ledger.Ledger.{Ledger}
use Rattle.board_changes.proofs.fits.fits_user.Goals as goal

pub may_enroll-requires : goal.may_enroll-requires
may_enroll-requires c = omega (arith, ap (λ (l : Ledger). length l.setup.conferences) c.ledger.ensures.ledger, c.ledger.ensures.board.ledger.setup.conferences.many)

pub returns-then-may_enroll : goal.returns-then-may_enroll
returns-then-may_enroll c =
    let b : Board = c.args.board.now in
    let tested : c.may_enroll.result ≡ may_enroll b.ledger c.args.name.now c.args.members = c.may_enroll.ensures ∙ ap (λ (l : Ledger). may_enroll l c.args.name.now c.args.members) c.ledger.ensures.ledger in (
      λ small. board_fits b c.args.name.now c.args.net c.args.members c.ledger.ensures.board (sym tested ∙ c.if-may_enroll.true) (omega (arith, c.size_with_user.ensures, leb-true c.size_with_user.result board_limit small)),
      λ next. le-leb c.size_with_user.result board_limit (omega (arith, c.size_with_user.ensures, next.small)),
    )

pub returns-else-may_enroll : goal.returns-else-may_enroll
returns-else-may_enroll c =
    let b : Board = c.args.board.now in
    let tested : c.may_enroll.result ≡ may_enroll b.ledger c.args.name.now c.args.members = c.may_enroll.ensures ∙ ap (λ (l : Ledger). may_enroll l c.args.name.now c.args.members) c.ledger.ensures.ledger in (
      λ may. absurd (true≢false (sym may ∙ c.if-may_enroll.false)),
      λ next. tested ∙ board_enrollable b c.args.name.now c.args.net c.args.members next,
    )
