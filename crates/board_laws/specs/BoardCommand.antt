-- What an entry is to a board.
use Rattle.std.specs.Prelude.{◌≡◌, ℕ, List}
use Rattle.cmd_adopt.specs.Adopt.{adopts}
use Rattle.entry_runs.specs.Door.{World}
use Rattle.entry_runs.specs.Runs.{Stepped}
use Rattle.cmd_messages.specs.cmd_board.Check.{checks}
use Rattle.cmd_messages.specs.cmd_board.Enroll.{enrolls}
use Rattle.cmd_messages.specs.cmd_board.Init.{inits}
use Rattle.cmd_messages.specs.cmd_board.State.{State}
use Rattle.cmd_exchange.specs.Ack.{acknowledges}
use Rattle.cmd_exchange.specs.Export.{exports}
use Rattle.cmd_messages.specs.Import.{imports}
use Rattle.cmd_messages.specs.Kill.{kills}
use Rattle.cmd_messages.specs.Sample.{samples}
use Rattle.cmd_pack.specs.Pack.{packs}
use Rattle.cmd_toss.specs.Toss.{tosses}
use Rattle.cmd_exchange.specs.Upload.{uploads}

pub data BoardCommand : Type 0 where
  -- the setup file
  Init : List ℕ → BoardCommand
  -- the words NAME, FLAGS and CONFS
  Enroll : List ℕ → List ℕ → List ℕ → BoardCommand
  Check : BoardCommand
  -- the number of the conference, and the sheet
  Import : ℕ → List ℕ → BoardCommand
  -- the number of the conference, and the prefix of the base
  Adopt : ℕ → List ℕ → BoardCommand
  -- the packet's file
  Toss : List ℕ → BoardCommand
  -- the number of the conference, and that of the message
  Kill : ℕ → ℕ → BoardCommand
  -- the number of the conference
  Pack : ℕ → BoardCommand
  -- the name of the user, the limit, and the folder
  Export : List ℕ → ℕ → List ℕ → BoardCommand
  -- the name of the user, and the packet
  Ack : List ℕ → ℕ → BoardCommand
  -- the name of the user, and the file
  Upload : List ℕ → List ℕ → BoardCommand
  -- the seed, and the count
  Sample : ℕ → ℕ → BoardCommand
  -- anything that leaves the board
  Other : BoardCommand

-- what it does at a moment
abbrev pub board_does : ℕ → BoardCommand → World State → Stepped (World State) → Type 0
board_does now (Init file) world stepped = (inits file now).Step world stepped
board_does now (Enroll name flags conferences) world stepped = (enrolls name flags conferences).Step world stepped
board_does now Check world stepped = checks.Step world stepped
board_does now (Import conference file) world stepped = (imports conference file now).Step world stepped
board_does now (Adopt conference prefix) world stepped = (adopts conference prefix).Step world stepped
board_does now (Toss file) world stepped = (tosses file now).Step world stepped
board_does now (Kill conference number) world stepped = (kills conference number).Step world stepped
board_does now (Pack conference) world stepped = (packs conference).Step world stepped
board_does now (Export name limit folder) world stepped = (exports name limit folder now).Step world stepped
board_does now (Ack name packet) world stepped = (acknowledges name packet now).Step world stepped
board_does now (Upload name file) world stepped = (uploads name file now).Step world stepped
board_does now (Sample seed count) world stepped = (samples seed count now).Step world stepped
board_does now Other world stepped = stepped.world.state ≡ world.state
