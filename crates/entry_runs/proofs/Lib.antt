pub mod Boards
pub mod Commands
pub mod Entries
pub mod Migrations
pub mod Outcomes
pub mod Running
pub mod ShelfLaws
pub mod Voice
