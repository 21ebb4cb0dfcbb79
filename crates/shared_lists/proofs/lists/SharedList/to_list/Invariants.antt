use Rattle.std.proofs.Common.{◌≡◌, take}
use Rattle.shared_lists.proofs.lists.SharedList.to_list.Given as goal

-- the copies so far are a front of the items
abbrev pub invariant-loop-place : goal.invariant-loop-place
invariant-loop-place g l = l.list ≡ take l.place l.self
