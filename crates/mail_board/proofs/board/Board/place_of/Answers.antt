use Rattle.std.proofs.Common.{◌∙◌}
use Rattle.board_layout.specs.Lookups.{place_of}
use Rattle.mail_board.proofs.board.Board.place_of.Goals as goal

pub returns : goal.returns
returns c = c.place_of.ensures.place ∙ (λ i. place_of (c.from.ensures i) (c.self.view_is i).board)
