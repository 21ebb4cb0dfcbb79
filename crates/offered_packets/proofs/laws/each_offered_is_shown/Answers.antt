use Rattle.offered_packets.proofs.EachShown.{each_is_shown}
use Rattle.offered_packets.proofs.laws.each_offered_is_shown.Goals as goal

pub returns : goal.returns
returns c = each_is_shown
