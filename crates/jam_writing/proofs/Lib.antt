pub mod PieceLaws
pub mod WritingLoops
pub mod SubfieldList
pub mod LastReadLoop
pub mod SlotShapes
pub mod EntryTexts
pub use Rattle.shared_slots.proofs as shared_slots
pub use Rattle.jam_layout.proofs as jam_layout
