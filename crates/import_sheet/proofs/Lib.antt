pub mod Lines
pub mod Words
pub mod Heads
pub mod Given
pub mod Bodies
pub mod Reading
pub mod Messages
pub mod Single
