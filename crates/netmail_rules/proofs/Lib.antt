pub mod Marks
pub mod AddressLines
pub mod KeptLines
pub mod RuleLists
pub mod Verdicts
pub mod PostedNames
pub mod PostedDrafts
pub use Rattle.damage_rules.proofs as damage_rules
