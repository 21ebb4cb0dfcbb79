pub mod Letter
pub mod Listing
pub mod Printed
pub mod Scan
