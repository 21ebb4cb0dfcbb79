pub mod TextLaws
pub mod WritingLaws
pub mod OfferLaws
pub mod CellTests
pub mod CellBytes
