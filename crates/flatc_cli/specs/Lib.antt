pub mod Commands
pub mod Arguments
pub mod Requests
pub mod Lines
pub mod Jobs
pub mod Misuses
pub mod ExampleLines
