use Rattle.std.proofs.Common.{◌≡◌, ◌∙◌, sym, ap, subst}
use Rattle.board_layout.specs.Board.{Board}
use Rattle.board_layout.specs.Outlines.{board_outline}
use Rattle.board_layout.specs.Renewed.{contents_of}
use Rattle.board_layout.proofs.RenewedBases.{contents_are}
use Rattle.board_layout.proofs.board.StoredBoard.bases.Goals as goal

pub returns-clause-contents : goal.returns-clause-contents
returns-clause-contents c =
    c.as_slice.ensures.value ∙ (sym (contents_are c.self.inside.ledger c.self.inside.bases.items c.self.invariant.1) ∙ ap contents_of c.self.view_is)

pub returns-clause-outline : goal.returns-clause-outline
returns-clause-outline c = subst (λ (b : Board). board_outline b ≡ b) c.self.view_is c.self.invariant.2
