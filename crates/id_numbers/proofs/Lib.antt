pub mod ByteMaps
pub mod NumberLemmas
