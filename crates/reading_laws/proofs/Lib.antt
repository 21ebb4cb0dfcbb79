pub mod Packets
pub mod Controls
pub mod Sheets
pub mod Type2Packets
