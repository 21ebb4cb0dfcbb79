mod Body
mod Carried
mod Checking
mod Closing
mod DataFiles
mod Fitting
mod Front
mod Grammar
pub mod Hosts
mod Intents
mod JournalRead
mod Marking
mod Moves
mod Opening
mod Puts
mod Replaying
mod Spelling
mod Staging
mod Steps
mod Syncing
pub mod Writes
