pub mod Lines
pub mod Msgids
pub mod Room
pub mod Tallies
pub use Rattle.packet_verdicts.specs as packet_verdicts
