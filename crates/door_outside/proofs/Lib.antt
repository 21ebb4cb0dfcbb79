pub mod Fetching
pub mod Moments
pub mod Names
pub mod Shelves
pub mod Disks
