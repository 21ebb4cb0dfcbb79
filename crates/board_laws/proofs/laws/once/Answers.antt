use Rattle.board_laws.proofs.OnceLaws.{changes_once, says_again}
use Rattle.board_laws.specs.BoardCommand.{board_does}
use Rattle.board_laws.proofs.laws.once.Goals as goal

pub returns : goal.returns
returns c = record {
  changes = changes_once (λ command. command) board_does (λ now entry world stepped is. is);
  again = says_again (λ command. command) board_does (λ now entry world stepped is. is);
}
