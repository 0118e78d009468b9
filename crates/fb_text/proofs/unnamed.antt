-- What the proofs of src/unnamed.rt use.
pub mod OneEntryMore
