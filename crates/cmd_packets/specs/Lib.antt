pub mod List
pub mod Packets
pub mod Read
pub mod Scan
