pub mod BoardCommand
pub mod History
pub mod Once
pub mod Kept
pub mod Passed
pub use Rattle.cmd_adopt.specs as cmd_adopt
pub use Rattle.cmd_pack.specs as cmd_pack
pub use Rattle.cmd_exchange.specs.door_upload as door_upload
pub use Rattle.cmd_toss.specs as cmd_toss
pub use Rattle.cmd_exchange.specs as cmd_exchange
pub use Rattle.cmd_exchange.specs.door_export as door_export
pub use Rattle.cmd_messages.specs as cmd_messages
pub use Rattle.offered_packets.specs as offered_packets
