pub mod Check
pub mod Damages
pub mod Enroll
pub mod Enrolling
pub mod Halts
pub mod Init
pub mod Keeping
pub mod Kept
pub mod Places
pub mod State
pub mod Turns
pub mod WriteBound
pub mod Causes
pub use Rattle.mail_board.specs as mail_board
pub use Rattle.shelf_files.specs as shelf_files
