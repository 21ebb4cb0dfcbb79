use Rattle.offered_packets.specs.Offered.{offered}
use Rattle.offered_packets.proofs.ReadBack.{all_read}
use Rattle.offered_packets.proofs.laws.shown_is_read.Goals as goal

pub returns : goal.returns
returns c = λ b user limit. all_read b (offered b user limit)
