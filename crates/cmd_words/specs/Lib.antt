pub mod Choice
pub mod NumberWord
