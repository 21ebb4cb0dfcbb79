pub mod Sees
pub mod Offered
pub mod Shown
pub mod Control
