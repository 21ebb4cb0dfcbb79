use Rattle.std.proofs.Common.{◌≡◌, length, take}
use Rattle.offered_packets.proofs.HighLaws.{highs_to}
use Rattle.offered_packets.proofs.highs.highs_of.Given as goal

-- the highs of the messages so far
abbrev pub invariant-loop-message : goal.invariant-loop-message
invariant-loop-message l = l.numbers.items ≡ highs_to (length l.board.conferences) (take l.message-index l.offered)
