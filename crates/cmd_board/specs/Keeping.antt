-- What a command that touches the board makes of its host, whatever the shelf holds or tells.
use Rattle.std.specs.Prelude.{◌≡◌, Result, Ok, Err, IfOk, IsErrOf}
use Rattle.door_outside.specs.Disk.{Disk}
use Rattle.entry_runs.specs.Entry.{IsDone}
use Rattle.entry_runs.specs.declared.class.Class.{Class}
use Rattle.entry_runs.specs.declared.class.Class.TheVariants as classes
use Rattle.entry_runs.specs.declared.stop.Stop.{Stop}
use Rattle.entry_runs.specs.declared.stop.Stop.TheVariants as stop
use Rattle.intent_journal.specs.Hosts.{IsFirm}
use Rattle.intent_journal.specs.Recovered.{recovered}
use Rattle.cmd_board.specs.State.{AreSpoiled}
use Rattle.cmd_board.specs.declared.halt.BoardHalt.{BoardHalt}
use Rattle.cmd_board.specs.declared.halt.BoardHalt.TheVariants.{Refused, Damaged, DiskFault, ShelfFault, OutOfMemory}

-- how a command went that wasn't carried out
abbrev pub went_halted : BoardHalt → Result Class Stop
went_halted (Refused why) = Ok classes.Refused
went_halted (Damaged d) = Ok classes.Damaged
went_halted DiskFault = Err stop.DiskFault
went_halted ShelfFault = Err stop.ShelfFault
went_halted OutOfMemory = Err stop.OutOfMemory

-- how a command went that answers this
abbrev pub went : {Value : Type 0} → Result Value BoardHalt → Result Class Stop
went (Ok value) = Ok classes.Done
went (Err halt) = went_halted halt

pub record KeepsFiles (old new : Disk) (result : Result Class Stop) : Type 0 where
  -- a firm host stays firm, unless the disk failed
  pub firm : ¬ IsErrOf result stop.DiskFault → IsFirm old → IsFirm new
  -- once the command was carried out, refused or answered, the host is firm
  pub rests : IsDone result → IsFirm new
  -- no files become such as are no board's
  pub still_spoiled : IfOk result (λ class. AreSpoiled (recovered new.files) → AreSpoiled (recovered old.files))
  -- damage is answered of such files alone
  pub only_spoiled : IfOk result (λ class. class ≡ classes.Damaged → AreSpoiled (recovered old.files))
