use Rattle.std.proofs.Common.{◌≡◌, ◌+◌, ◌++◌, take}
use Rattle.std.specs.List.{flat_map, enumerate_from}
use Rattle.offline_reader.specs.Listing.{listing_line}
use Rattle.offline_reader.proofs.listing.add_listing.Given as goal

abbrev pub invariant-loop-message : goal.invariant-loop-message
invariant-loop-message l = record {
  place : l.place ≡ l.message-index + 1;
  page : l.page ≡ l.fn.page ++ flat_map listing_line (enumerate_from 1 (take l.message-index l.message-items));
}
