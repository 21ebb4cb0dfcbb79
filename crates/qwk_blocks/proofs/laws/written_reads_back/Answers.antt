use Rattle.qwk_blocks.proofs.Written.{packet_back, no_others}
use Rattle.qwk_blocks.proofs.laws.written_reads_back.Goals as goal

pub returns : goal.returns
returns c = record { reads = packet_back; no_others = no_others }
