pub mod OneMoreIsKnown
mod WordsTellBytes
