pub mod Flags
pub mod Messages
pub mod Verdicts
