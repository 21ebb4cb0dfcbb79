pub mod FolderLaws
pub mod HighsFit
pub mod ExportLaws
pub mod FetchLaws
pub mod AckLaws
pub mod ExportedReads
pub mod ExportAlike
