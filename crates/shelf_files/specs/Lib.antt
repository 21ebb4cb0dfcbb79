pub mod Halts
pub mod Refusals
pub mod ShelfFile
pub mod Sheets
