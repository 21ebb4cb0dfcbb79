pub mod Changed
pub mod Change
pub mod Gathered
pub mod Enrolling
pub mod Spending
pub mod Outlined
pub mod Steps
