pub mod Adopt
pub mod Adopted
pub mod Adopting
pub mod BaseFiles
pub use Rattle.mail_intake.specs as mail_intake
