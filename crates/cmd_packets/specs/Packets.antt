-- What the files of a packet on the shelf are read as.
use Rattle.std.specs.Prelude.{◌⊎◌, ℕ, List, ◌++◌, codes, Result, Ok, Err}
use Rattle.door_outside.specs.Shelf.{ShelfFiles}
use Rattle.qwk_blocks.specs.Packet.{PacketReads, FirstFault}
use Rattle.qwk_blocks.specs.declared.message.QwkMessage.{QwkMessage}
use Rattle.qwk_control.specs.Control.{ControlReads}
use Rattle.qwk_control.specs.Fault.{ControlFault}
use Rattle.qwk_control.specs.declared.control.Control.{Control}
use Rattle.qwk_control.specs.declared.fault.ControlError.{ControlError}
use Rattle.qwk_control.specs.declared.fault.ControlError.TheVariants.{TooFewLines, BadNumber, BadBoardId, OutOfMemory}
use Rattle.shelf_files.specs.ShelfFile.{ReadAs, file_within, file_limit, packet_limit}
use Rattle.shelf_files.specs.declared.halt.Halt.{Halt}
use Rattle.shelf_files.specs.declared.halt.Halt.TheVariants as halt
use Rattle.shelf_files.specs.declared.refusal.Refusal.{Refusal}
use Rattle.shelf_files.specs.declared.refusal.Refusal.TheVariants.{Broken, ControlShort, ControlNumber, ControlId}
use Rattle.cmd_packets.specs.declared.folder.Packet.{Packet}

-- the messages of a packet's file, or the first refusal
abbrev pub PacketOf : ShelfFiles → List ℕ → Result (List QwkMessage) Refusal → Type 0
PacketOf shelf name read = ReadAs PacketReads FirstFault (λ fault. Broken fault) (file_within shelf name packet_limit) read

-- what a fault of CONTROL.DAT is refused as; want of memory is none
abbrev pub control_refusal : ControlError → Refusal
control_refusal (TooFewLines line) = ControlShort line
control_refusal (BadNumber line) = ControlNumber line
control_refusal BadBoardId = ControlId
control_refusal OutOfMemory = ControlId

-- why a command stops at a fault of CONTROL.DAT
abbrev pub control_halt : ControlError → Halt
control_halt (TooFewLines line) = halt.Refused (ControlShort line)
control_halt (BadNumber line) = halt.Refused (ControlNumber line)
control_halt BadBoardId = halt.Refused ControlId
control_halt OutOfMemory = halt.OutOfMemory

-- what CONTROL.DAT says, or the first refusal
abbrev pub ControlOf : ShelfFiles → List ℕ → Result Control Refusal → Type 0
ControlOf shelf name read = ReadAs ControlReads ControlFault control_refusal (file_within shelf name file_limit) read

-- What the two files of a packet's folder say. Where CONTROL.DAT is refused, MESSAGES.DAT isn't looked at.
abbrev pub FolderOf : ShelfFiles → List ℕ → Result Packet Refusal → Type 0
FolderOf shelf folder (Ok packet) =
    ControlOf shelf (folder ++ codes "/CONTROL.DAT") (Ok packet.control)
    × PacketOf shelf (folder ++ codes "/MESSAGES.DAT") (Ok packet.messages)
FolderOf shelf folder (Err why) =
    ControlOf shelf (folder ++ codes "/CONTROL.DAT") (Err why)
    ⊎ ((control : Control) × ControlOf shelf (folder ++ codes "/CONTROL.DAT") (Ok control)
    × PacketOf shelf (folder ++ codes "/MESSAGES.DAT") (Err why))

-- what was read of some bytes
abbrev pub IsControl : Control → Type 0
IsControl control = (bytes : List ℕ) × ControlReads bytes control

abbrev pub ArePacket : List QwkMessage → Type 0
ArePacket messages = (bytes : List ℕ) × PacketReads bytes messages

pub record IsFolder (packet : Packet) : Type 0 where
  pub control : IsControl packet.control
  pub messages : ArePacket packet.messages
