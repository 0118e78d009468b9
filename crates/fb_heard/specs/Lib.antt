pub mod Heard
