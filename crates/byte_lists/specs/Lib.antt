pub mod Byte
pub mod Memory
