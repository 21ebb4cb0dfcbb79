pub mod Msgids
pub mod Changed
pub mod Values
pub mod Packed
pub use Rattle.board_changes.specs as board_changes
