pub mod Chains
pub mod Children
pub mod FirstNumbers
pub mod LinkChanges
pub mod Links
pub mod Threading
