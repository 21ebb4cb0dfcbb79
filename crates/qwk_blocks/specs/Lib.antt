pub mod Header
pub mod Text
pub mod Status
pub mod Packet
pub mod Answer
pub mod Written
pub mod Reader
