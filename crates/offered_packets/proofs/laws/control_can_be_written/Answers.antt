use Rattle.offered_packets.proofs.Controls.{control_fits}
use Rattle.offered_packets.proofs.laws.control_can_be_written.Goals as goal

pub returns : goal.returns
returns c = λ b u count now ok has few small. control_fits b u count now ok has few (c.written_bytes.ensures.stamp now small)
