-- What an entry does.
use Rattle.std.specs.Prelude.{◌≡◌, ℕ, Bool, true, false, List}
use Rattle.std.specs.List.{list_any}
use Rattle.board_laws.specs.cmd_adopt.Adopt.{adopts}
use Rattle.entry_runs.specs.Door.{Act, Door}
use Rattle.entry_runs.specs.Entry.{Reply, ShelfAct, on_shelf, looks}
use Rattle.cmd_board.specs.Check.{checks}
use Rattle.cmd_board.specs.Enroll.{enrolls}
use Rattle.cmd_board.specs.Init.{inits}
use Rattle.cmd_board.specs.State.{State, Stores}
use Rattle.board_laws.specs.cmd_exchange.Ack.{acknowledges}
use Rattle.board_laws.specs.cmd_exchange.Export.{exports}
use Rattle.board_laws.specs.cmd_messages.Import.{imports}
use Rattle.board_laws.specs.cmd_messages.Kill.{kills}
use Rattle.board_laws.specs.cmd_pack.Pack.{packs}
use Rattle.cmd_packets.specs.List.{lists}
use Rattle.cmd_packets.specs.Read.{reads, shows}
use Rattle.cmd_packets.specs.Scan.{scans}
use Rattle.cmd_replies.specs.Compose.{composes}
use Rattle.cmd_replies.specs.Reply.{replies}
use Rattle.board_laws.specs.cmd_messages.Sample.{samples}
use Rattle.cmd_board.specs.shelf_files.Halts.{refused}
use Rattle.board_laws.specs.cmd_toss.Toss.{tosses}
use Rattle.board_laws.specs.cmd_exchange.Upload.{uploads}
use Rattle.cmd_entries.specs.Answers.{usage}
use Rattle.cmd_entries.specs.declared.command.Command.{Command}
use Rattle.cmd_entries.specs.declared.command.Command.TheVariants as command
use Rattle.cmd_entries.specs.declared.entry.Entry.{Entry}
use Rattle.cmd_entries.specs.declared.entry.Entry.TheVariants.{Run, Wrong, Refuse}

-- what a batch does by itself: nothing, since its commands are the entries
abbrev pub nothing : ShelfAct
nothing = looks (λ shelf answer. ⊥)

-- one line for each command: what it does at a moment, and what it may reach
abbrev pub does : ℕ → Command → Act State
does now (command.Ack user packet) = acknowledges user packet now
does now (command.Adopt conference prefix) = adopts conference prefix
does now (command.Batch file) = on_shelf nothing
does now command.Check = checks
does now (command.Compose folder conference sheet rep) = on_shelf (composes folder conference sheet rep now)
does now (command.Enroll name flags conferences) = enrolls name flags conferences
does now (command.Export user limit folder) = exports user limit folder now
does now (command.Import conference file) = imports conference file now
does now (command.Init file) = inits file now
does now (command.Kill conference number) = kills conference number
does now (command.List file) = on_shelf (lists file)
does now (command.Pack conference) = packs conference
does now (command.Read folder) = on_shelf (reads folder)
does now (command.Reply folder place text rep) = on_shelf (replies folder place text rep now)
does now (command.Sample seed count) = samples seed count now
does now (command.Show folder place) = on_shelf (shows folder place)
does now (command.Scan file) = on_shelf (scans file)
does now (command.Toss file) = tosses file now
does now (command.Upload user file) = uploads user file now

-- something is said, and nothing changes
abbrev pub says : Reply → ShelfAct
says reply = looks (λ shelf answer. answer ≡ reply)

abbrev pub act : ℕ → Entry → Act State
act now (Run command) = does now command
act now (Wrong which) = on_shelf (says (usage which))
act now (Refuse why) = on_shelf (says (refused why))

abbrev pub door : ℕ → Door State Entry
door now = record { Stores = Stores; act = act now }

-- the command names a file or a folder of the shelf: only such a one reads or writes any
abbrev pub uses_shelf : Command → Bool
uses_shelf (command.Ack user packet) = false
uses_shelf (command.Adopt conference prefix) = true
uses_shelf (command.Batch file) = true
uses_shelf command.Check = false
uses_shelf (command.Compose folder conference sheet rep) = true
uses_shelf (command.Enroll name flags conferences) = false
uses_shelf (command.Export user limit folder) = true
uses_shelf (command.Import conference file) = true
uses_shelf (command.Init file) = true
uses_shelf (command.Kill conference number) = false
uses_shelf (command.List file) = true
uses_shelf (command.Pack conference) = false
uses_shelf (command.Read folder) = true
uses_shelf (command.Reply folder place text rep) = true
uses_shelf (command.Sample seed count) = false
uses_shelf (command.Show folder place) = true
uses_shelf (command.Scan file) = true
uses_shelf (command.Toss file) = true
uses_shelf (command.Upload user file) = true

abbrev pub entry_uses_shelf : Entry → Bool
entry_uses_shelf (Run command) = uses_shelf command
entry_uses_shelf (Wrong which) = false
entry_uses_shelf (Refuse why) = false

-- one of the entries does
abbrev pub any_uses_shelf : List Entry → Bool
any_uses_shelf entries = list_any entry_uses_shelf entries
