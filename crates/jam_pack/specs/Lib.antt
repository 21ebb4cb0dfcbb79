pub mod Packing
pub use Rattle.mail_board.specs as mail_board
pub use Rattle.slot_changes.specs as slot_changes
