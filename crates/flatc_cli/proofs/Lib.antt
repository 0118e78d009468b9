pub mod Arguments
pub mod Refusals
pub mod LineInputs
pub mod JobLines
pub mod TaskFiles
