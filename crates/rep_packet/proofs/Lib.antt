pub mod Once
pub mod Answers
pub mod Written
pub mod Sizes
