pub mod Causes
pub mod Held
pub mod Bodies
pub mod Loading
pub mod Changes
pub mod Written
pub mod Readers
pub use Rattle.offer_changes.specs as offer_changes
pub use Rattle.post_changes.specs.board_changes as board_changes
