use Rattle.offered_packets.specs.Offered.{is_new, numbers_in}
use Rattle.offered_packets.proofs.Offers.{place_more}
use Rattle.offered_packets.proofs.offering.offered.Goals as goal

pub loop-place-preserved : goal.loop-place-preserved
loop-place-preserved c =
    place_more (is_new c.args.board.now c.args.user) (numbers_in c.args.board.now) c.loop-place.place c.args.limit c.loop-place.messages c.add_new.new.messages c.loop-place.invariant c.in_ok-add_new.ensures
