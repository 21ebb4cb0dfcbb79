-- What the reader answers, from the one reply packet or fault that the bytes have, and that it can be written.
use Rattle.std.proofs.Common.{ℕ, List, Result, Ok, Err, length, refl, ap, inl, inr, arith, length-append, length-take}
use Rattle.byte_lists.specs.Memory.{UnlessMemory}
use Rattle.qwk_blocks.specs.Written.{TextFits}
use Rattle.rep_packet.specs.Answer.{RepOrFault}
use Rattle.rep_packet.specs.Rep.{HasBoardId, RepReads, RepFault}
use Rattle.rep_packet.specs.declared.rep.Rep.{Rep}
use Rattle.rep_packet.specs.declared.fault.RepError.{RepError}
use Rattle.rep_packet.specs.declared.fault.RepError.TheVariants.{Fault, NoBoardId, OutOfMemory}
use Rattle.rep_packet.proofs.Once.{rep_unique, fault_unique, no_fault}

pub only_ok : (bytes : List ℕ) (r : Result Rep RepError) → RepOrFault bytes r → (rep : Rep) → RepReads bytes rep → UnlessMemory OutOfMemory r (Ok rep)
only_ok bytes (Ok other) h rep x = inl (ap Ok (rep_unique bytes other rep h x))
only_ok bytes (Err (Fault f)) h rep x = absurd (no_fault bytes rep (Fault f) x h)
only_ok bytes (Err NoBoardId) h rep x = absurd (no_fault bytes rep NoBoardId x h)
only_ok bytes (Err OutOfMemory) h rep x = inr refl

pub only_fault : (bytes : List ℕ) (r : Result Rep RepError) → RepOrFault bytes r → (fault : RepError) → RepFault bytes fault → UnlessMemory OutOfMemory r (Err fault)
only_fault bytes (Ok rep) h fault x = absurd (no_fault bytes rep fault h x)
only_fault bytes (Err (Fault f)) h fault x = inl (ap Err (fault_unique bytes (Fault f) fault h x))
only_fault bytes (Err NoBoardId) h fault x = inl (ap Err (fault_unique bytes NoBoardId fault h x))
only_fault bytes (Err OutOfMemory) h fault x = inr refl

-- a board id that is read fits its field
pub board_fits : (bytes id : List ℕ) → HasBoardId bytes id → TextFits 8 id
board_fits bytes id x = record { short = omega (arith, ap length x.text.whole, length-append id x.text.pad, length-take 8 bytes); trimmed = x.text.ends }
