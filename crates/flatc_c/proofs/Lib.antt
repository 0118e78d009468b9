pub mod HeldValues
pub mod Pointers
