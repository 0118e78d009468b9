pub mod Lines
pub mod Runs
pub mod StandardPaths
pub mod Targets
pub mod Windows
