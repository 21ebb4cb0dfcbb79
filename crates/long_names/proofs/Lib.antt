pub mod Shortening
pub mod EmptyLines
pub mod Back
pub mod LongValues
pub mod PlainValues
pub mod WithLong
