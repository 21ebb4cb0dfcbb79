pub mod Once
pub mod Kept
pub mod Single
pub mod Written
