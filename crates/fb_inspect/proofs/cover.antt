pub mod OneMoreCoversMore
pub mod OneMoreIsKept
