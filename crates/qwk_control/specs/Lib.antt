pub mod Line
pub mod Control
pub mod Fault
pub mod Written
