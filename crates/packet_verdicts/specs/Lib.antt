pub mod Views
pub mod Typed
pub mod Judged
pub mod Accepted
pub mod Judging
