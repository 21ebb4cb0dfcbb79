use Rattle.std.proofs.Common.{◌≡◌, ◌++◌, take}
use Rattle.std.specs.List.{flat_map}
use Rattle.open_offers.specs.Offers.{cell_text}
use Rattle.open_offers.proofs.cells.add_offers.Given as goal

-- the offers so far were added
abbrev pub invariant-loop-offer : goal.invariant-loop-offer
invariant-loop-offer l = l.out ≡ l.initial.out ++ flat_map cell_text (take l.offer-index l.offers)
