pub mod Posted
pub mod Posting
pub mod Recorded
pub use Rattle.slot_changes.specs as slot_changes
pub use Rattle.slot_changes.specs.board_changes as board_changes
