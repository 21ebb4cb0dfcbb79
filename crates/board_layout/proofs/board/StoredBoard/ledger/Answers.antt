use Rattle.std.proofs.Common.{◌≡◌, subst}
use Rattle.board_layout.specs.Board.{Board}
use Rattle.board_layout.specs.Outlines.{board_outline}
use Rattle.board_layout.proofs.board.StoredBoard.ledger.Goals as goal

pub returns-clause-outline : goal.returns-clause-outline
returns-clause-outline c = subst (λ (b : Board). board_outline b ≡ b) c.self.view_is c.self.invariant.2
