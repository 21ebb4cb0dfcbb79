pub mod AdoptActs
pub mod AdoptBounds
pub mod AdoptExits
pub mod FoundLaws
pub mod NameLaws
pub mod StepLaws
pub mod AdoptAlike
