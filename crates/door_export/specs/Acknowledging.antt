-- What an acknowledgement answers.
use Rattle.std.specs.Prelude.{Option, Some, None, Result, Ok, Err}
use Rattle.mail_board.specs.declared.change.ChangeError.{ChangeError}
use Rattle.mail_board.specs.declared.change.ChangeError.TheVariants as change
use Rattle.door_export.specs.Ack.{AckRefusal}
use Rattle.door_export.specs.Ack as refusal
use Rattle.door_export.specs.declared.acknowledging.AckError.{AckError}
use Rattle.door_export.specs.declared.acknowledging.AckError.TheVariants.{NoUser, NoPacket, DiskFault, Doubt, OutOfMemory}

-- the error as which the board's change ended
abbrev pub ack_change_error : ChangeError → AckError
ack_change_error change.DiskFault = DiskFault
ack_change_error change.Doubt = Doubt
ack_change_error change.OutOfMemory = OutOfMemory

-- the refusal that an error is, where it is one
abbrev pub refusal_of : AckError → Option AckRefusal
refusal_of NoUser = Some refusal.NoUser
refusal_of (NoPacket offer) = Some (refusal.NoPacket offer)
refusal_of DiskFault = None
refusal_of Doubt = None
refusal_of OutOfMemory = None

-- the refusal that is answered, where one is
abbrev pub refusal_in : {T : Type 0} → Result T AckError → Option AckRefusal
refusal_in (Ok value) = None
refusal_in (Err e) = refusal_of e

-- an error that comes before anything is changed
abbrev pub IsEarlyAck : AckError → Type 0
IsEarlyAck NoUser = Unit {0}
IsEarlyAck (NoPacket offer) = Unit {0}
IsEarlyAck DiskFault = ⊥
IsEarlyAck Doubt = Unit {0}
IsEarlyAck OutOfMemory = Unit {0}

-- such an answer leaves all as it was
abbrev pub AckLeavesAll : {T : Type 0} → Result T AckError → Type 0
AckLeavesAll (Ok value) = ⊥
AckLeavesAll (Err e) = IsEarlyAck e
