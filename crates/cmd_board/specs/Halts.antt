-- What a command that touches the board answers, and why it isn't carried out.
use Rattle.std.specs.Prelude.{ℕ, List, Result, Ok, Err}
use Rattle.entry_runs.specs.Entry.{Reply}
use Rattle.entry_runs.specs.declared.stop.Stop.{Stop}
use Rattle.entry_runs.specs.declared.stop.Stop.TheVariants as stop
use Rattle.board_layout.specs.declared.error.ReadError.{ReadError}
use Rattle.board_layout.specs.declared.error.ReadError.TheVariants as read
use Rattle.intent_journal.specs.declared.recovery.JournalError.{JournalError}
use Rattle.intent_journal.specs.declared.recovery.JournalError.TheVariants as journal
use Rattle.shelf_files.specs.Halts.{done, refused}
use Rattle.shelf_files.specs.declared.halt.Halt.{Halt}
use Rattle.shelf_files.specs.declared.halt.Halt.TheVariants as halt
use Rattle.shelf_files.specs.declared.refusal.Refusal.{Refusal}
use Rattle.cmd_board.specs.Damages.{damaged}
use Rattle.cmd_board.specs.declared.halt.BoardHalt.{BoardHalt}
use Rattle.cmd_board.specs.declared.halt.BoardHalt.TheVariants.{Refused, Damaged, DiskFault, ShelfFault, OutOfMemory}

-- what a command answers, as it is to be said, or why the run stops
abbrev pub told : {Value : Type 0} → (Value → List ℕ) → Result Value BoardHalt → Result Reply Stop
told text (Ok value) = Ok (done (text value))
told text (Err (Refused why)) = Ok (refused why)
told text (Err (Damaged d)) = Ok (damaged d)
told text (Err DiskFault) = Err stop.DiskFault
told text (Err ShelfFault) = Err stop.ShelfFault
told text (Err OutOfMemory) = Err stop.OutOfMemory

-- it is refused, and this holds of the refusal; or memory ran out
abbrev pub StopsBy : (Refusal → Type 0) → BoardHalt → Type 0
StopsBy Why (Refused why) = Why why
StopsBy Why OutOfMemory = Unit {0}
StopsBy Why (Damaged d) = ⊥
StopsBy Why DiskFault = ⊥
StopsBy Why ShelfFault = ⊥

-- what a call answered, with its error as why a command isn't carried out
abbrev pub halted : {T E : Type 0} → (E → BoardHalt) → Result T E → Result T BoardHalt
halted why (Ok value) = Ok value
halted why (Err e) = Err (why e)

-- why a command isn't carried out where the board wasn't read
abbrev pub halt_of_read : ReadError → BoardHalt
halt_of_read (read.Damaged d) = Damaged d
halt_of_read read.DiskFault = DiskFault
halt_of_read read.OutOfMemory = OutOfMemory

-- where the change wasn't made
abbrev pub of_journal : JournalError → BoardHalt
of_journal journal.DiskFault = DiskFault
of_journal journal.OutOfMemory = OutOfMemory

-- and where a file of the shelf was refused or not read
abbrev pub of_shelf : Halt → BoardHalt
of_shelf (halt.Refused why) = Refused why
of_shelf halt.ShelfFault = ShelfFault
of_shelf halt.OutOfMemory = OutOfMemory
