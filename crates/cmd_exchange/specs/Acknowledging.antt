-- How the command `ack` ends, by what the acknowledgement answered.
use Rattle.cmd_board.specs.declared.halt.BoardHalt.{BoardHalt}
use Rattle.cmd_board.specs.declared.halt.BoardHalt.TheVariants.{Refused, DiskFault, OutOfMemory}
use Rattle.door_export.specs.declared.acknowledging.AckError.{AckError}
use Rattle.door_export.specs.declared.acknowledging.AckError.TheVariants as error
use Rattle.shelf_files.specs.declared.refusal.Refusal.TheVariants.{NoUser, NoPacket}

-- (A board that is kept is in no doubt.)
abbrev pub ack_halt : AckError → BoardHalt
ack_halt error.NoUser = Refused NoUser
ack_halt (error.NoPacket offer) = Refused (NoPacket offer)
ack_halt error.DiskFault = DiskFault
ack_halt error.Doubt = DiskFault
ack_halt error.OutOfMemory = OutOfMemory
