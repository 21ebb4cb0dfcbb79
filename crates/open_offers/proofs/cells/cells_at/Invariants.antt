use Rattle.std.proofs.Common.{◌≡◌, ◌+◌, ◌-◌, ◌≤◌, ◌++◌, length}
use Rattle.std.specs.Prelude.{All}
use Rattle.open_offers.specs.Offers.{cells_at, cells_size}
use Rattle.open_offers.proofs.cells.cells_at.Given as goal

-- the cells so far, and those that are still read, are those of the bytes, where the next begins and the last ends
abbrev pub invariant-loop : goal.invariant-loop
invariant-loop l = record {
  read : l.cells ++ cells_at l.number l.conferences (4 - l.counter) l.bytes ≡ cells_at l.at l.conferences 4 l.bytes;
  whole : l.number + cells_size l.conferences (4 - l.counter) ≤ length l.bytes;
  highs : All (λ o. length o.highs ≤ 64) l.cells;
}
