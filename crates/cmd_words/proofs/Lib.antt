pub mod JoinedWords
pub mod ChoiceLaws
