pub mod HeaderLemmas
pub mod SubfieldLemmas
pub mod AddressLemmas
pub use Rattle.record_numbers.proofs as record_numbers
