-- How the command `pack` ends, by what the pack answered.
use Rattle.cmd_board.specs.declared.halt.BoardHalt.{BoardHalt}
use Rattle.cmd_board.specs.declared.halt.BoardHalt.TheVariants.{Damaged, DiskFault, OutOfMemory}
use Rattle.jam_pack.specs.declared.error.PackError.{PackError}
use Rattle.jam_pack.specs.declared.error.PackError.TheVariants as error

-- (A board that is kept is in no doubt.)
abbrev pub pack_halt : PackError → BoardHalt
pack_halt error.DiskFault = DiskFault
pack_halt error.Doubt = DiskFault
pack_halt (error.Damaged d) = Damaged d
pack_halt error.OutOfMemory = OutOfMemory
