pub mod OneWord
pub mod Words
pub mod Writing
pub mod Answers
pub mod Batch
pub mod Entries
