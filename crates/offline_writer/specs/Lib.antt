pub mod Drafts
pub mod Fitting
pub mod Placing
pub mod Answer
