pub mod JamCrc
