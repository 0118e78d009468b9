-- What noting a value adds, for the walks of the crates above.
pub mod EntryHasItsFields
pub mod PartsAreAdded
pub mod SlotsAreNoted
pub mod PartsFollow
pub mod OneMoreFits
