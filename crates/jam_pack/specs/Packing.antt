-- What a pack answers.
use Rattle.std.specs.Prelude.{Result, Ok, Err}
use Rattle.board_layout.specs.declared.error.ReadError.{ReadError}
use Rattle.board_layout.specs.declared.error.ReadError.TheVariants as read
use Rattle.jam_pack.specs.declared.error.PackError.{PackError}
use Rattle.jam_pack.specs.declared.error.PackError.TheVariants.{DiskFault, Doubt, Damaged, OutOfMemory}
use Rattle.mail_board.specs.declared.change.ChangeError.{ChangeError}
use Rattle.mail_board.specs.declared.change.ChangeError.TheVariants as change

-- the error as which the board's change ended
abbrev pub pack_change_error : ChangeError → PackError
pack_change_error change.DiskFault = DiskFault
pack_change_error change.Doubt = Doubt
pack_change_error change.OutOfMemory = OutOfMemory

-- the error as which the fetching of a message ended
abbrev pub pack_read_error : ReadError → PackError
pack_read_error (read.Damaged d) = Damaged d
pack_read_error read.DiskFault = DiskFault
pack_read_error read.OutOfMemory = OutOfMemory

-- an error that comes before anything is changed
abbrev pub IsEarlyPack : PackError → Type 0
IsEarlyPack DiskFault = ⊥
IsEarlyPack Doubt = Unit {0}
IsEarlyPack (Damaged d) = Unit {0}
IsEarlyPack OutOfMemory = Unit {0}

-- such an answer leaves all as it was
abbrev pub PackLeavesAll : {T : Type 0} → Result T PackError → Type 0
PackLeavesAll (Ok value) = ⊥
PackLeavesAll (Err e) = IsEarlyPack e
