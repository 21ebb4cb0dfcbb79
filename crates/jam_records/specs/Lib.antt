pub mod Addresses
pub mod BaseHeaders
pub mod DamageWord
pub mod IndexRecords
pub mod LastReads
pub mod MessageHeaders
pub mod Signature
pub mod Subfields
pub use Rattle.record_numbers.specs.byte_lists as byte_lists
pub use Rattle.record_numbers.specs as record_numbers
