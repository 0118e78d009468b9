pub mod CarriedEntries
pub mod Counted
pub mod Planned
pub mod Ready
pub mod NewNumbers
pub mod ShownValues
pub mod Memory
