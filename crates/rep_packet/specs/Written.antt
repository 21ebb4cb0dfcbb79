-- The one written form of a reply packet.
use Rattle.std.specs.Prelude.{ℕ, ◌≤◌, List, length, All}
use Rattle.qwk_blocks.specs.Written.{spelling, TextFits, Writable}
use Rattle.rep_packet.specs.declared.rep.Rep.{Rep}

-- the board id in a block of its own, padded with spaces, and then the messages
abbrev pub rep_text : Rep → List ℕ
rep_text rep = spelling rep.bbsid rep.messages

-- what has a written form
pub record IsRep (rep : Rep) : Type 0 where
  pub bbsid : TextFits 8 rep.bbsid
  pub some : 1 ≤ length rep.bbsid
  pub messages : All Writable rep.messages
