pub mod Steps
pub mod RepFile
pub mod Writing
pub mod Reply
pub mod Compose
