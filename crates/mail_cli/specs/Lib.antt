pub mod Run
pub mod Step
pub mod BoardEntry
pub mod Histories
pub mod Passages
pub mod CommandBound
pub mod Promises
