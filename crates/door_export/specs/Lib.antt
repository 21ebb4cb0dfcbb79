pub mod Folder
pub mod Export
pub mod Exporting
pub mod Ack
pub mod Acknowledging
