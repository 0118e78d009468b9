pub mod Positions
pub mod Findings
