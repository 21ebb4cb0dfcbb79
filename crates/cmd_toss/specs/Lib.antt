pub mod PacketFiles
pub mod Toss
pub mod Tossed
pub mod Tossing
pub use Rattle.fts_packet.specs as fts_packet
