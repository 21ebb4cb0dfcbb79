use Rattle.std.proofs.Common.{◌≡◌, take}
use Rattle.byte_lists.proofs.list.List.copy.Given as goal

-- the copy so far is a front of the list
abbrev pub invariant-loop-item : goal.invariant-loop-item
invariant-loop-item g l = record {
  front : l.copy ≡ take l.item-index l.item-items;
  all : l.item-items ≡ l.self;
}
