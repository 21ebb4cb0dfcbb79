pub mod Contents
pub mod Events
pub mod Images
pub mod MemoryHost
pub mod MemoryShelf
pub mod Plan
