use Rattle.rep_packet.proofs.Written.{rep_back, no_others}
use Rattle.rep_packet.proofs.laws.written_reads_back.Goals as goal

pub returns : goal.returns
returns c = record { reads = rep_back; no_others = no_others }
