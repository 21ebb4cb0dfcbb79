pub mod OneWordLaws
pub mod OneCommand
pub mod MayRun
pub mod Entering
pub mod Batches
pub mod SomeWords
pub mod SomeEntries
