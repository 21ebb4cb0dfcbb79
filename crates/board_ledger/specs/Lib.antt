pub mod Apart
pub mod Limits
pub mod Rules
pub mod Met
pub mod Records
pub mod Opening
pub mod Conferences
pub mod Users
pub mod Uploads
pub mod Ledger
pub mod LedgerTests
pub mod Valid
pub mod OneFile
pub mod UploadPuts
pub mod UserPuts
pub mod EnrollPuts
pub use Rattle.setup_file.specs as setup_file
pub use Rattle.open_offers.specs as open_offers
pub use Rattle.intent_journal.specs as intent_journal
pub use Rattle.damage_rules.specs as damage_rules
