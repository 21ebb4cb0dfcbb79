pub mod Elements
pub mod Slots
pub mod Readers
pub mod Bases
pub mod Grown
pub mod Fresh
pub mod OpenOffers
pub mod Users
pub mod Changing
pub mod Views
pub mod Moves
pub mod Turns
pub mod Uploads
pub mod Sequences
pub mod OnceLaws
pub mod KeptLaws
pub mod Offers
pub mod PassedLaws
pub mod PacketLaws
pub use Rattle.cmd_adopt.proofs as cmd_adopt
pub use Rattle.cmd_pack.proofs as cmd_pack
pub use Rattle.cmd_toss.proofs as cmd_toss
pub use Rattle.cmd_exchange.proofs as cmd_exchange
pub use Rattle.cmd_messages.proofs as cmd_messages
