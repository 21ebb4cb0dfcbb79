pub mod Rep
pub mod Written
pub mod Answer
