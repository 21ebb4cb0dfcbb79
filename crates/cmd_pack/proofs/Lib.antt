pub mod PackActs
pub mod PackAlike
pub mod PackExits
