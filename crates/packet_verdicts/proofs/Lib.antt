pub mod PostLists
pub mod Spreading
pub mod SpreadSizes
pub mod ReplyLaws
pub mod Indexes
pub mod DraftLists
pub mod Outcomes
pub mod Places
pub mod Validity
pub mod Steps
pub mod Fitting
pub mod Counting
pub mod OutlineLaws
pub use Rattle.offered_packets.proofs as offered_packets
