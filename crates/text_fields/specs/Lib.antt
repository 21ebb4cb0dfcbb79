pub mod Blank
pub mod Trim
pub mod Number
pub mod Split
pub mod Lines
pub mod Numbered
pub use Rattle.byte_lists.specs as byte_lists
