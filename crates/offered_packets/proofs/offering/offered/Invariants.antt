use Rattle.std.proofs.Common.{◌≡◌, take}
use Rattle.std.specs.List.{filter, flat_map, range_with_len}
use Rattle.offered_packets.specs.Offered.{is_new, numbers_in}
use Rattle.offered_packets.proofs.offering.offered.Given as goal

-- what is offered of the places so far
abbrev pub invariant-loop-place : goal.invariant-loop-place
invariant-loop-place l = l.messages ≡ take l.limit (filter (is_new l.board l.user) (flat_map (numbers_in l.board) (range_with_len 0 l.place)))
