pub mod DateParts
pub mod CalendarWalk
pub mod Window
pub mod Minutes
pub mod Spelling
pub mod Readings
