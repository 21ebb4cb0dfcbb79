pub mod AddressLine
pub mod RuleWord
pub mod Draft
pub mod Rules
pub mod Verdict
pub mod Fits
pub use Rattle.long_names.specs as long_names
