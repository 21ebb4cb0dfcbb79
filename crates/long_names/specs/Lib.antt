pub mod Value
pub mod Lead
pub mod Plain
pub mod Fits
