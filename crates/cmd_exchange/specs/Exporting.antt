-- How the command `export` ends, by what the export answered.
use Rattle.cmd_board.specs.declared.halt.BoardHalt.{BoardHalt}
use Rattle.cmd_board.specs.declared.halt.BoardHalt.TheVariants.{Refused, Damaged, DiskFault, ShelfFault, OutOfMemory}
use Rattle.door_export.specs.declared.exporting.ExportError.{ExportError}
use Rattle.door_export.specs.declared.exporting.ExportError.TheVariants as error
use Rattle.shelf_files.specs.declared.refusal.Refusal.TheVariants.{NoUser, Limit, Packets}

-- (A board that is kept is in no doubt.)
abbrev pub export_halt : ExportError → BoardHalt
export_halt error.NoUser = Refused NoUser
export_halt error.Limit = Refused Limit
export_halt error.Packets = Refused Packets
export_halt error.DiskFault = DiskFault
export_halt error.Doubt = DiskFault
export_halt (error.Damaged d) = Damaged d
export_halt error.ShelfFault = ShelfFault
export_halt error.OutOfMemory = OutOfMemory
