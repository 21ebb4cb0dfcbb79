pub mod Header
pub mod Sheet
pub mod Fault
pub mod State
pub mod RuleWord
