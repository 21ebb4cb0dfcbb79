pub mod Steps
pub mod Clean
pub mod Makings
pub mod ReplyLaws
