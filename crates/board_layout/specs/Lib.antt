pub mod Board
pub mod Renewed
pub mod Lookups
pub mod Layout
pub mod OldLayout
pub mod Valid
pub mod Damage
pub mod BoardTests
pub mod Rules
pub mod Outlines
pub use Rattle.jam_base.specs as jam_base
pub use Rattle.jam_base.specs.jam_layout as jam_layout
pub use Rattle.jam_base.specs.jam_writing as jam_writing
