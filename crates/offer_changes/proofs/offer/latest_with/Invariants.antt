use Rattle.std.proofs.Common.{◌≡◌, drop, length, take}
use Rattle.offer_changes.proofs.offer.latest_with.Given as goal

-- the offers so far are copied, of those behind the first that stays
abbrev pub invariant-loop-kept : goal.invariant-loop-kept
invariant-loop-kept l = record {
  copied : l.next ≡ take l.kept-index l.kept-items;
  items : l.kept-items ≡ drop l.first l.offers;
  end : l.kept-index-end ≡ length l.kept-items;
}
