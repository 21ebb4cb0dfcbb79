pub mod PlacePosts
pub mod PostLaws
pub mod EachPost
pub mod RecordLaws
pub mod SizeLaws
pub mod FitLaws
pub mod PostSteps
pub mod UploadLaws
pub mod EachUpload
pub use Rattle.slot_changes.proofs as slot_changes
pub use Rattle.slot_changes.proofs.board_changes as board_changes
