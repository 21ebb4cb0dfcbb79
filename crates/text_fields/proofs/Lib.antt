pub mod Trimming
pub mod Numbers
pub mod Splits
pub mod LineLists
pub mod Fields
pub mod Numbered
