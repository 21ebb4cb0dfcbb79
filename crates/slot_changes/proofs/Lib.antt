pub mod MsgidLaws
pub mod SlotBytes
pub mod ValueLaws
pub mod PlaceKinds
pub mod AppendLaws
pub mod FitLaws
pub mod DeleteLaws
pub mod EachSlots
pub mod PackLaws
pub mod ReplaceLaws
pub mod SlotValues
pub use Rattle.board_changes.proofs as board_changes
