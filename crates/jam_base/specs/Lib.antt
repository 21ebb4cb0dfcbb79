pub mod Bodies
pub mod Change
pub mod Contents
pub mod MarkPuts
pub mod OneAppend
pub mod Outlined
pub mod Places
pub mod Puts
pub mod Slots
pub use Rattle.jam_writing.specs.jam_layout.Conference
pub use Rattle.jam_writing.specs.jam_layout.Fields
pub use Rattle.jam_writing.specs.jam_layout.InOrder
pub use Rattle.jam_writing.specs.jam_layout.Layout
pub use Rattle.jam_writing.specs.jam_layout.Messages
pub use Rattle.jam_writing.specs.jam_layout.Reader
pub use Rattle.jam_writing.specs.jam_layout.Readers
pub use Rattle.jam_writing.specs.jam_layout.Rules
pub use Rattle.jam_writing.specs.jam_layout.Valid
pub use Rattle.jam_writing.specs.jam_layout as jam_layout
pub use Rattle.jam_writing.specs as jam_writing
