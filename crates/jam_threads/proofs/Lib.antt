pub mod ChildrenLemmas
pub mod ChainLemmas
pub mod ChangeLemmas
pub mod FillLemmas
pub mod FirstLemmas
pub mod FirstLoop
pub mod LookUpLemmas
