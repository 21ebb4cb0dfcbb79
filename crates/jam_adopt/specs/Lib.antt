pub mod Bodies
pub mod Fields
pub mod Foreign
pub mod Leaps
pub mod RuleWord
pub mod Texts
pub mod Values
pub mod Verdicts
