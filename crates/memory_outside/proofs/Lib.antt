mod Choosing
pub mod Left
mod Maps
mod Passing
mod Replaying
mod Short
mod Tearing
