pub mod Faults
pub mod Handles
pub mod Owned
pub mod Settings
