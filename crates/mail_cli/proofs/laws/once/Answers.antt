use Rattle.board_laws.proofs.OnceLaws.{changes_once, says_again}
use Rattle.mail_cli.proofs.BoardEntries.{are_commands}
use Rattle.mail_cli.specs.BoardEntry.{board_command, steps}
use Rattle.mail_cli.proofs.laws.once.Goals as goal

pub returns-clause-changes : goal.returns-clause-changes
returns-clause-changes c = changes_once board_command steps are_commands

pub returns-clause-again : goal.returns-clause-again
returns-clause-again c = says_again board_command steps are_commands
