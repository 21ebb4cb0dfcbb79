pub mod PlaceLaws
pub mod KeptLaws
pub mod BareSlots
