use Rattle.offered_packets.proofs.PacketSizes.{shown_writable, all_writable, packet_short}
use Rattle.offered_packets.proofs.laws.shown_can_be_written.Goals as goal

pub returns-clause-message : goal.returns-clause-message
returns-clause-message c = shown_writable

pub returns-clause-messages : goal.returns-clause-messages
returns-clause-messages c = all_writable

pub returns-clause-short : goal.returns-clause-short
returns-clause-short c = packet_short
