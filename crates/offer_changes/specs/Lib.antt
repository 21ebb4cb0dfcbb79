pub mod Changed
pub mod Highs
