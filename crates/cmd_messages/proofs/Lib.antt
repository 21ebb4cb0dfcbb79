pub mod DrawLaws
pub mod EntryLaws
pub mod FitLaws
pub mod ImportExits
pub mod ImportLaws
pub mod KillLaws
pub mod LastSlots
pub mod MessageActs
pub mod MessageTexts
pub mod SampleActs
pub mod SampleExits
pub mod SampleFitLaws
pub mod SampleLists
pub mod SamplingLaws
pub mod SlotCounts
pub mod TurnLaws
pub mod ImportAlike
pub mod SampleAlike
pub mod PostBounds
pub use Rattle.packet_verdicts.proofs as packet_verdicts
pub use Rattle.cmd_board.proofs.mail_board as mail_board
pub use Rattle.cmd_board.proofs as cmd_board
