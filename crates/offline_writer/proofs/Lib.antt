pub mod Texts
pub mod Places
pub mod Writing
pub mod FirstUnfit
