pub mod FoundInText
pub mod Refusals
