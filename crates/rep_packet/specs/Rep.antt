-- The reply file BBSID.MSG, by Lee's layout: MESSAGES.DAT, but its first block begins with the board id.
use Rattle.std.specs.Prelude.{◌≡◌, ◌⊎◌, ℕ, ◌≤◌, List, length}
use Rattle.qwk_blocks.specs.Header.{HasText}
use Rattle.qwk_blocks.specs.Packet.{PacketReads, FirstFault}
use Rattle.qwk_blocks.specs.declared.fault.QwkFault.TheVariants.{Truncated}
use Rattle.rep_packet.specs.declared.rep.Rep.{Rep}
use Rattle.rep_packet.specs.declared.fault.RepError.{RepError}
use Rattle.rep_packet.specs.declared.fault.RepError.TheVariants.{Fault, NoBoardId, OutOfMemory}

-- The first 8 bytes are a text field with this board id, which isn't empty.
pub record HasBoardId (bytes bbsid : List ℕ) : Type 0 where
  pub text : HasText 1 8 bytes bbsid
  pub some : 1 ≤ length bbsid

pub record RepReads (bytes : List ℕ) (rep : Rep) : Type 0 where
  pub packet : PacketReads bytes rep.messages
  pub bbsid : HasBoardId bytes rep.bbsid

-- A first block that isn't all there comes before a missing board id, and that before any other fault.
abbrev pub RepFault : List ℕ → RepError → Type 0
RepFault bytes (Fault fault) = FirstFault bytes fault × ((fault ≡ Truncated 0) ⊎ ((bbsid : List ℕ) × HasBoardId bytes bbsid))
RepFault bytes NoBoardId = (¬ FirstFault bytes (Truncated 0)) × ((bbsid : List ℕ) → ¬ HasBoardId bytes bbsid)
RepFault bytes OutOfMemory = ⊥
