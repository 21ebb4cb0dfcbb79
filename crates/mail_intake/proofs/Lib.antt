pub mod TallyLaws
pub mod RoomAlike
pub use Rattle.packet_verdicts.proofs as packet_verdicts
pub use Rattle.packet_verdicts.proofs.offered_packets as offered_packets
