use Rattle.board_laws.proofs.PacketLaws.{packets_rise}
use Rattle.board_laws.proofs.PassedLaws.{is_passed}
use Rattle.board_laws.specs.BoardCommand.{board_does}
use Rattle.board_laws.proofs.laws.passed.Goals as goal

pub returns : goal.returns
returns c = record {
  passed = is_passed (λ command. command) board_does (λ now entry world stepped is. is);
  packets = packets_rise (λ command. command) board_does (λ now entry world stepped is. is);
}
