use Rattle.std.proofs.Common.{◌≡◌, ◌++◌, ℕ, List, length}
use Rattle.fts_packet.specs.Packet.{PackedMessagesRead}
use Rattle.fts_packet.proofs.read.packet_in.Given as goal

-- the bytes so far are those of the messages
abbrev pub invariant-loop-header : goal.invariant-loop-header
invariant-loop-header l = record {
  before : List ℕ;
  whole : l.bytes ≡ l.header ++ (before ++ l.rest);
  read : PackedMessagesRead l.header before l.packet;
}

abbrev pub decreases-loop-header : goal.decreases-loop-header
decreases-loop-header l = length l.rest
