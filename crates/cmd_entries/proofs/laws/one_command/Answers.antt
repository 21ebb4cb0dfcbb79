use Rattle.cmd_entries.proofs.OneCommand.{command_unique}
use Rattle.cmd_entries.proofs.laws.one_command.Goals as goal

pub returns : goal.returns
returns c = command_unique
