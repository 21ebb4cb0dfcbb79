pub mod Steps
pub mod TableRule
