use Rattle.std.proofs.Common.{◌≡◌, length, take}
use Rattle.offer_changes.specs.Changed.{other_offers}
use Rattle.offer_changes.proofs.acknowledge.other_offers.Given as goal

-- those so far but that of the number are copied
abbrev pub invariant-loop-offer : goal.invariant-loop-offer
invariant-loop-offer l = record {
  copied : l.next ≡ other_offers l.packet (take l.offer-index l.offers);
  end : l.offer-index-end ≡ length l.offers;
}
