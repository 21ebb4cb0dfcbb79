use Rattle.board_laws.proofs.PassedLaws.{is_passed}
use Rattle.board_laws.proofs.PacketLaws.{packets_rise}
use Rattle.mail_cli.proofs.BoardEntries.{are_commands}
use Rattle.mail_cli.specs.BoardEntry.{board_command, steps}
use Rattle.mail_cli.proofs.laws.passed.Goals as goal

pub returns-clause-passed : goal.returns-clause-passed
returns-clause-passed c = is_passed board_command steps are_commands

pub returns-clause-packets : goal.returns-clause-packets
returns-clause-packets c = packets_rise board_command steps are_commands
