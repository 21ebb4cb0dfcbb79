pub mod KeptRules
pub mod RecordWalks
pub mod BoolTests
pub mod ReadingClauses
pub mod TestLists
