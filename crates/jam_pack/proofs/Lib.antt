pub mod PackedSlots
pub mod OfferedStays
pub mod PackedBoards
pub mod FetchedSlots
pub mod PackErrors
pub use Rattle.slot_changes.proofs as slot_changes
