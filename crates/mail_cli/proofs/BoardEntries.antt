-- What an entry does is what it is to a board.
use Rattle.board_laws.proofs.Sequences.{AreCommands}
use Rattle.cmd_entries.specs.declared.command.Command.TheVariants as command
use Rattle.cmd_entries.specs.declared.entry.Entry.TheVariants.{Run, Wrong, Refuse}
use Rattle.mail_cli.specs.BoardEntry.{board_command, steps}

pub are_commands : AreCommands board_command steps
are_commands now (Run (command.Ack user packet)) world stepped step = step
are_commands now (Run (command.Adopt conference prefix)) world stepped step = step
are_commands now (Run (command.Batch file)) world stepped step = step.1
are_commands now (Run command.Check) world stepped step = step
are_commands now (Run (command.Compose folder conference sheet rep)) world stepped step = step.1
are_commands now (Run (command.Enroll name flags conferences)) world stepped step = step
are_commands now (Run (command.Export user limit folder)) world stepped step = step
are_commands now (Run (command.Import conference file)) world stepped step = step
are_commands now (Run (command.Init file)) world stepped step = step
are_commands now (Run (command.Kill conference number)) world stepped step = step
are_commands now (Run (command.Pack conference)) world stepped step = step
are_commands now (Run (command.List file)) world stepped step = step.1
are_commands now (Run (command.Read folder)) world stepped step = step.1
are_commands now (Run (command.Reply folder place text rep)) world stepped step = step.1
are_commands now (Run (command.Sample seed count)) world stepped step = step
are_commands now (Run (command.Show folder place)) world stepped step = step.1
are_commands now (Run (command.Scan file)) world stepped step = step.1
are_commands now (Run (command.Toss file)) world stepped step = step
are_commands now (Run (command.Upload user file)) world stepped step = step
are_commands now (Wrong which) world stepped step = step.1
are_commands now (Refuse why) world stepped step = step.1
