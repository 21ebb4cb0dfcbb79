pub mod Uploads
