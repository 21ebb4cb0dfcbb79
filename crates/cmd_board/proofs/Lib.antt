pub mod BoardActs
pub mod ChangeExits
pub mod ChangeLaws
pub mod EnrollExits
pub mod EnrollLaws
pub mod Exits
pub mod FindLaws
pub mod InitExits
pub mod KeepingLaws
pub mod ReportLaws
pub mod StateLaws
pub mod TurnLaws
pub mod KeptLaws
pub mod LikeLaws
pub mod LikeTurns
pub mod PlaceAlike
pub mod PlaceLaws
pub mod CheckLaws
pub mod EnrollAlike
pub mod CauseLaws
pub mod WriteLaws
pub use Rattle.mail_board.proofs as mail_board
pub use Rattle.shelf_files.proofs as shelf_files
