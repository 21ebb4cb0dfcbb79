pub mod Code
pub mod Door
pub mod Entry
pub mod Promise
pub mod Runs
pub mod Saying
