use Rattle.std.proofs.Common.{◌≡◌, take}
use Rattle.shared_lists.proofs.lists.copies.Given as goal

-- the copies so far are a front of the items
abbrev pub invariant-loop-item : goal.invariant-loop-item
invariant-loop-item g l = l.copies ≡ take l.item-index l.items
