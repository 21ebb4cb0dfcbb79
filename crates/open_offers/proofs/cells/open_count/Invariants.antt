use Rattle.std.proofs.Common.{◌≡◌, ◌++◌, take, drop}
use Rattle.open_offers.specs.Offers.{open_in}
use Rattle.open_offers.proofs.cells.open_count.Given as goal

-- the cells so far have offers, and behind them are the other open ones
abbrev pub invariant-loop-k : goal.invariant-loop-k
invariant-loop-k l = open_in l.cells ≡ take l.k l.cells ++ open_in (drop l.k l.cells)
