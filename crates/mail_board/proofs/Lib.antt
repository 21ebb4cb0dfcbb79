pub mod DataLaws
pub mod DataReading
pub mod CommitLaws
pub mod NextLaws
pub mod EachBases
pub mod EachRead
pub mod EachNext
pub mod OwnNext
pub mod EachBound
pub mod OneHost
pub mod LoadLaws
pub mod BodyLaws
pub mod MessageLaws
pub mod WriteBounds
pub mod PostedSlots
pub mod MigrationLaws
pub mod MsgidTests
pub mod ReplacedSlots
pub mod FetchedHosts
pub use Rattle.offer_changes.proofs as offer_changes
pub use Rattle.post_changes.proofs.board_changes as board_changes
