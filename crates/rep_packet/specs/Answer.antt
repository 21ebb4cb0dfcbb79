-- What the reader answers.
use Rattle.std.specs.Prelude.{ℕ, List, Result, Ok, Err}
use Rattle.qwk_blocks.specs.declared.fault.QwkError.{QwkError}
use Rattle.qwk_blocks.specs.declared.fault.QwkError.TheVariants as packet
use Rattle.rep_packet.specs.Rep.{RepReads, RepFault}
use Rattle.rep_packet.specs.declared.rep.Rep.{Rep}
use Rattle.rep_packet.specs.declared.fault.RepError.{RepError}
use Rattle.rep_packet.specs.declared.fault.RepError.TheVariants.{Fault, NoBoardId, OutOfMemory}

-- what a packet's error is called here
abbrev pub error_of_packet : QwkError → RepError
error_of_packet (packet.Fault fault) = Fault fault
error_of_packet packet.OutOfMemory = OutOfMemory

-- the reply packet as it is read, or its fault
abbrev pub RepOrFault : List ℕ → Result Rep RepError → Type 0
RepOrFault bytes (Ok rep) = RepReads bytes rep
RepOrFault bytes (Err (Fault fault)) = RepFault bytes (Fault fault)
RepOrFault bytes (Err NoBoardId) = RepFault bytes NoBoardId
RepOrFault bytes (Err OutOfMemory) = Unit {0}
