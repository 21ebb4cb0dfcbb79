pub mod Allowance
pub mod Cause
pub mod Disk
pub mod File
pub mod Name
pub mod Shelf
