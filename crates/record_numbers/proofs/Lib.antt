pub mod NumberFronts
pub mod NumberLemmas
