pub mod Pack
pub mod Packing
