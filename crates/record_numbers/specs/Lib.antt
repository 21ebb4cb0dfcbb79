pub mod Numbers
pub use Rattle.byte_lists.specs as byte_lists
