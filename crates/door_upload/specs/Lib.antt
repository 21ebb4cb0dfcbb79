pub mod Upload
pub mod Uploading
