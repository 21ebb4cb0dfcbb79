pub mod Replies
pub mod SheetLaws
