pub mod Draws
pub mod Import
pub mod Importing
pub mod Kill
pub mod Sample
pub mod Sampling
pub use Rattle.packet_verdicts.specs as packet_verdicts
pub use Rattle.cmd_board.specs.mail_board as mail_board
pub use Rattle.cmd_board.specs as cmd_board
pub use Rattle.cmd_board.specs.shelf_files as shelf_files
