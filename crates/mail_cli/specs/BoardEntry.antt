-- What an entry is to a board, and what it does: a line for each command.
use Rattle.board_laws.specs.BoardCommand.{BoardCommand}
use Rattle.board_laws.specs.BoardCommand as board
use Rattle.board_laws.specs.History.{Steps}
use Rattle.cmd_entries.specs.declared.command.Command.TheVariants as command
use Rattle.cmd_entries.specs.declared.entry.Entry.{Entry}
use Rattle.cmd_entries.specs.declared.entry.Entry.TheVariants.{Run, Wrong, Refuse}
use Rattle.mail_cli.specs.Step.{act}

abbrev pub board_command : Entry → BoardCommand
board_command (Run (command.Ack user packet)) = board.Ack user packet
board_command (Run (command.Adopt conference prefix)) = board.Adopt conference prefix
board_command (Run (command.Batch file)) = board.Other
board_command (Run command.Check) = board.Check
board_command (Run (command.Compose folder conference sheet rep)) = board.Other
board_command (Run (command.Enroll name flags conferences)) = board.Enroll name flags conferences
board_command (Run (command.Export user limit folder)) = board.Export user limit folder
board_command (Run (command.Import conference file)) = board.Import conference file
board_command (Run (command.Init file)) = board.Init file
board_command (Run (command.Kill conference number)) = board.Kill conference number
board_command (Run (command.Pack conference)) = board.Pack conference
board_command (Run (command.List file)) = board.Other
board_command (Run (command.Read folder)) = board.Other
board_command (Run (command.Reply folder place text rep)) = board.Other
board_command (Run (command.Sample seed count)) = board.Sample seed count
board_command (Run (command.Show folder place)) = board.Other
board_command (Run (command.Scan file)) = board.Other
board_command (Run (command.Toss file)) = board.Toss file
board_command (Run (command.Upload user file)) = board.Upload user file
board_command (Wrong which) = board.Other
board_command (Refuse why) = board.Other

-- what entries do at a moment
abbrev pub steps : Steps Entry
steps now entry world stepped = (act now entry).Step world stepped
