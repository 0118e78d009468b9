pub mod Places
pub mod Streams
pub mod Records
pub mod Objects
