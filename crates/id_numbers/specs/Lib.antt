pub mod Mix
pub mod Numbers
