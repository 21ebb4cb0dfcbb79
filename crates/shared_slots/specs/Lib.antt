pub mod Kept
pub mod PlacesFrom
