use Rattle.jam_pack.proofs.OfferedStays.{offered_stays}
use Rattle.jam_pack.proofs.laws.offered_stays.Goals as goal

pub returns : goal.returns
returns c = offered_stays
