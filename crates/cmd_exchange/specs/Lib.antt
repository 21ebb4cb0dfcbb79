pub mod Ack
pub mod Acknowledging
pub mod Export
pub mod Exporting
pub mod Handing
pub mod Upload
pub mod Uploading
pub use Rattle.door_upload.specs as door_upload
pub use Rattle.door_export.specs as door_export
