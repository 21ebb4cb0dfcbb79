use Rattle.std.proofs.Common.{◌≡◌, drop}
use Rattle.open_offers.specs.Offers.{rise}
use Rattle.open_offers.proofs.cells.rise.Given as goal

-- the numbers so far rise, so that all do where those from here on do
abbrev pub invariant-loop-k : goal.invariant-loop-k
invariant-loop-k l = rise l.members l.last l.before (drop l.k l.cells) ≡ rise l.members l.last 0 l.cells
