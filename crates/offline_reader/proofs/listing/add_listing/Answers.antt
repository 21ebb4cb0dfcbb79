use Rattle.std.proofs.Common.{ℕ, ◌++◌, List, ◌∙◌, ap, sym, arith, append_assoc}
use Rattle.offline_reader.specs.Listing.{listing_line}
use Rattle.offline_reader.proofs.Places.{flat_map-place_more}
use Rattle.offline_reader.proofs.listing.add_listing.Goals as goal

pub loop-message-preserved : goal.loop-message-preserved
loop-message-preserved c = record {
  place = omega arith;
  page =
      let more = flat_map-place_more listing_line c.as_slice-message-items.result.now c.loop-message.message-index c.message-item.result (omega arith) c.message-item.is in
      c.in_ok-add_line.ensures
      ∙ (λ i. c.loop-message.invariant.page i ++ listing_line (c.loop-message.invariant.place i, c.message-item.result))
      ∙ append_assoc c.args.page.now _ _
      ∙ ap (λ (l : List ℕ). c.args.page.now ++ l) (sym more);
}
