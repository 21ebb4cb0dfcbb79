use Rattle.board_laws.proofs.KeptLaws.{stays_made, stays_offered}
use Rattle.mail_cli.proofs.BoardEntries.{are_commands}
use Rattle.mail_cli.specs.BoardEntry.{board_command, steps}
use Rattle.mail_cli.proofs.laws.kept.Goals as goal

pub returns-clause-made : goal.returns-clause-made
returns-clause-made c = stays_made board_command steps are_commands

pub returns-clause-offered : goal.returns-clause-offered
returns-clause-offered c = stays_offered board_command steps are_commands
