-- What an export answers, and what it has prepared before it changes the board.
use Rattle.std.specs.Prelude.{◌≡◌, ℕ, ◌+◌, List, length, Option, Some, None, Result, Ok, Err}
use Rattle.board_layout.specs.Board.{Board}
use Rattle.board_layout.specs.declared.error.ReadError.{ReadError}
use Rattle.board_layout.specs.declared.error.ReadError.TheVariants as read
use Rattle.board_ledger.specs.declared.user.User.{User}
use Rattle.mail_board.specs.Changes.{changed}
use Rattle.mail_board.specs.declared.change.Change.TheVariants.{Offer}
use Rattle.mail_board.specs.declared.change.ChangeError.{ChangeError}
use Rattle.mail_board.specs.declared.change.ChangeError.TheVariants as change
use Rattle.offered_packets.specs.Offered.{highs, offered}
use Rattle.offered_packets.specs.Shown.{notice}
use Rattle.qwk_blocks.specs.Written.{spelling}
use Rattle.qwk_blocks.specs.declared.message.QwkMessage.{QwkMessage}
use Rattle.door_export.specs.Export.{ExportRefusal, Handout, control_file}
use Rattle.door_export.specs.Export as refusal
use Rattle.door_export.specs.declared.exporting.ExportError.{ExportError}
use Rattle.door_export.specs.declared.exporting.ExportError.TheVariants.{NoUser, Limit, Packets, DiskFault, Doubt, Damaged, ShelfFault, OutOfMemory}
use Rattle.door_export.specs.declared.exporting.Exporting.{Exporting}

-- the error as which the board's change ended
abbrev pub export_change_error : ChangeError → ExportError
export_change_error change.DiskFault = DiskFault
export_change_error change.Doubt = Doubt
export_change_error change.OutOfMemory = OutOfMemory

-- the error as which the fetching of a message ended
abbrev pub export_read_error : ReadError → ExportError
export_read_error (read.Damaged d) = Damaged d
export_read_error read.DiskFault = DiskFault
export_read_error read.OutOfMemory = OutOfMemory

-- the packet that is prepared for a board
abbrev pub packet_of : Exporting → Board → Handout
packet_of e b = record { board = changed e.change b; controls = e.controls; messages = e.messages; answer = e.exported }

-- the change, the control and the answer are those of the packet to a user; an outline tells them
pub record IsPreparedFor (limit now : ℕ) (b : Board) (id : ℕ) (u : User) (e : Exporting) : Type 0 where
  pub change : e.change ≡ Offer id (highs b (offered b id limit))
  pub controls : e.controls ≡ control_file b id u limit now
  pub exported : e.exported ≡ record { packet = u.last + 1; count = length (offered b id limit) }

-- and the messages are these, behind the notice of his next packet
abbrev pub HasMessages : List QwkMessage → User → Exporting → Type 0
HasMessages messages u e = e.messages ≡ spelling (notice (u.last + 1)) messages

-- the error as which a refusal is answered
abbrev pub export_error : ExportRefusal → ExportError
export_error refusal.NoUser = NoUser
export_error refusal.Limit = Limit
export_error refusal.Packets = Packets

-- the refusal that an error is, where it is one
abbrev pub refusal_of : ExportError → Option ExportRefusal
refusal_of NoUser = Some refusal.NoUser
refusal_of Limit = Some refusal.Limit
refusal_of Packets = Some refusal.Packets
refusal_of DiskFault = None
refusal_of Doubt = None
refusal_of (Damaged d) = None
refusal_of ShelfFault = None
refusal_of OutOfMemory = None

-- the refusal that is answered, where one is
abbrev pub refusal_in : {T : Type 0} → Result T ExportError → Option ExportRefusal
refusal_in (Ok value) = None
refusal_in (Err e) = refusal_of e

-- an error that comes before any call of the host
abbrev pub IsFirst : ExportError → Type 0
IsFirst NoUser = Unit {0}
IsFirst Limit = Unit {0}
IsFirst Packets = Unit {0}
IsFirst DiskFault = ⊥
IsFirst Doubt = Unit {0}
IsFirst (Damaged d) = ⊥
IsFirst ShelfFault = ⊥
IsFirst OutOfMemory = ⊥

-- such an answer asks nothing of the host
abbrev pub AsksNothing : {T : Type 0} → Result T ExportError → Type 0
AsksNothing (Ok value) = ⊥
AsksNothing (Err e) = IsFirst e

-- an error that may come before anything is changed
abbrev pub IsBefore : ExportError → Type 0
IsBefore NoUser = Unit {0}
IsBefore Limit = Unit {0}
IsBefore Packets = Unit {0}
IsBefore DiskFault = Unit {0}
IsBefore Doubt = Unit {0}
IsBefore (Damaged d) = Unit {0}
IsBefore ShelfFault = ⊥
IsBefore OutOfMemory = Unit {0}

-- one that comes only before it: all but a disk fault
abbrev pub IsEarlyExport : ExportError → Type 0
IsEarlyExport NoUser = Unit {0}
IsEarlyExport Limit = Unit {0}
IsEarlyExport Packets = Unit {0}
IsEarlyExport DiskFault = ⊥
IsEarlyExport Doubt = Unit {0}
IsEarlyExport (Damaged d) = Unit {0}
IsEarlyExport ShelfFault = ⊥
IsEarlyExport OutOfMemory = Unit {0}

-- such an answer leaves all as it was
abbrev pub ExportLeavesAll : {T : Type 0} → Result T ExportError → Type 0
ExportLeavesAll (Ok value) = ⊥
ExportLeavesAll (Err e) = IsEarlyExport e

-- the offer is kept
abbrev pub KeepsOffer : {T : Type 0} → Result T ExportError → Type 0
KeepsOffer (Ok value) = Unit {0}
KeepsOffer (Err NoUser) = ⊥
KeepsOffer (Err Limit) = ⊥
KeepsOffer (Err Packets) = ⊥
KeepsOffer (Err DiskFault) = ⊥
KeepsOffer (Err Doubt) = ⊥
KeepsOffer (Err (Damaged d)) = ⊥
KeepsOffer (Err ShelfFault) = Unit {0}
KeepsOffer (Err OutOfMemory) = ⊥
