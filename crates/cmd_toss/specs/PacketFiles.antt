-- What a type 2 packet on the shelf is read as.
use Rattle.std.specs.Prelude.{ℕ, List, Result}
use Rattle.door_outside.specs.Shelf.{ShelfFiles}
use Rattle.fts_packet.specs.Fault.{FtsFault}
use Rattle.fts_packet.specs.Packet.{FtsReads}
use Rattle.fts_packet.specs.declared.fault.FtsError.{FtsError}
use Rattle.fts_packet.specs.declared.fault.FtsError.TheVariants.{Fault, OutOfMemory}
use Rattle.fts_packet.specs.declared.packet.FtsMessage.{FtsMessage}
use Rattle.shelf_files.specs.ShelfFile.{ReadAs, file_within, file_limit}
use Rattle.shelf_files.specs.declared.halt.Halt.{Halt}
use Rattle.shelf_files.specs.declared.halt.Halt.TheVariants as halt
use Rattle.shelf_files.specs.declared.refusal.Refusal.{Refusal}
use Rattle.shelf_files.specs.declared.refusal.Refusal.TheVariants as refusal

-- a packet has this first fault; want of memory is no fault
abbrev pub FtsBreaks : List ℕ → FtsError → Type 0
FtsBreaks bytes (Fault rule at) = FtsFault bytes rule at
FtsBreaks bytes OutOfMemory = ⊥

-- what that is refused as
abbrev pub fts_refusal : FtsError → Refusal
fts_refusal (Fault rule at) = refusal.Packet rule at
fts_refusal OutOfMemory = refusal.NoConference

-- why a command stops there
abbrev pub fts_halt : FtsError → Halt
fts_halt (Fault rule at) = halt.Refused (refusal.Packet rule at)
fts_halt OutOfMemory = halt.OutOfMemory

-- the messages of a packet
abbrev pub FtsPacketOf : ShelfFiles → List ℕ → Result (List FtsMessage) Refusal → Type 0
FtsPacketOf shelf name read = ReadAs FtsReads FtsBreaks fts_refusal (file_within shelf name file_limit) read
