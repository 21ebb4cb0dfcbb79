pub mod PacketAnswers
pub mod PacketLaws
