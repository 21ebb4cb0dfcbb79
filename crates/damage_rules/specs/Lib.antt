pub mod Rules
pub mod Walk
pub mod Tests
