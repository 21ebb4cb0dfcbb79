use Rattle.std.proofs.Common.{◌≡◌, ◌≤◌, ◌++◌, length, map}
use Rattle.std.specs.List.{filter, range_with_len}
use Rattle.offered_packets.specs.Offered.{is_new}
use Rattle.offered_packets.proofs.Offers.{numbered_at}
use Rattle.offered_packets.proofs.offering.add_new.Given as goal

-- of the numbers so far those that are new were added, and the limit isn't passed
abbrev pub invariant-loop-slot : goal.invariant-loop-slot
invariant-loop-slot l = record {
  added : l.messages ≡ l.fn.messages ++ filter (is_new l.board l.user) (map (numbered_at l.place) (range_with_len 1 l.slot));
  few : length l.messages ≤ l.limit;
}
