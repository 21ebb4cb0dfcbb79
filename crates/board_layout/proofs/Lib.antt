pub mod LedgerShapes
pub mod BasePlaces
pub mod SizeLaws
pub mod StoredLedgers
pub mod FirstBytes
pub mod RenewedBases
pub mod RestLaws
pub mod HighLaws
pub mod ConferenceLaws
pub mod BoardParts
pub mod BoardLaws
pub mod TestedBoards
pub mod BoardLookups
pub mod ReadingBases
pub mod ReadingParts
pub mod ReadingClauses
pub mod ReadingBoard
pub mod OutlineLaws
pub mod OneOutline
pub use Rattle.jam_base.proofs as jam_base
pub use Rattle.jam_base.proofs.jam_layout as jam_layout
pub use Rattle.jam_base.proofs.jam_writing as jam_writing
