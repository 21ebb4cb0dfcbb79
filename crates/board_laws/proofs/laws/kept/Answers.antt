use Rattle.board_laws.proofs.KeptLaws.{stays_made, stays_offered}
use Rattle.board_laws.specs.BoardCommand.{board_does}
use Rattle.board_laws.proofs.laws.kept.Goals as goal

pub returns : goal.returns
returns c = record {
  made = stays_made (λ command. command) board_does (λ now entry world stepped is. is);
  offered = stays_offered (λ command. command) board_does (λ now entry world stepped is. is);
}
