use Rattle.qwk_control.proofs.Written.{control_back, no_others}
use Rattle.qwk_control.proofs.laws.written_reads_back.Goals as goal

pub returns : goal.returns
returns c = record { reads = control_back; no_others = no_others }
