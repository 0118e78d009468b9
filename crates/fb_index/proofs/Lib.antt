mod Positions
mod FreeKeys
mod Keyed
pub mod LastEntry
