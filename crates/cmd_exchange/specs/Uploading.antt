-- How the command `upload` ends, by what the upload answered.
use Rattle.cmd_board.specs.declared.halt.BoardHalt.{BoardHalt}
use Rattle.cmd_board.specs.declared.halt.BoardHalt.TheVariants.{Refused, Damaged, DiskFault, OutOfMemory}
use Rattle.door_upload.specs.declared.answer.UploadError.{UploadError}
use Rattle.door_upload.specs.declared.answer.UploadError.TheVariants as error
use Rattle.shelf_files.specs.declared.refusal.Refusal.TheVariants as refusal

-- (A board that is kept is in no doubt.)
abbrev pub upload_halt : UploadError → BoardHalt
upload_halt error.NoUser = Refused refusal.NoUser
upload_halt (error.Broken fault) = Refused (refusal.Broken fault)
upload_halt error.NoBoardId = Refused refusal.NoBoardId
upload_halt error.OtherBoard = Refused refusal.OtherBoard
upload_halt error.Uploads = Refused refusal.Uploads
upload_halt (error.Size bytes) = Refused (refusal.Size bytes)
upload_halt error.DiskFault = DiskFault
upload_halt error.Doubt = DiskFault
upload_halt (error.Damaged d) = Damaged d
upload_halt error.OutOfMemory = OutOfMemory
