-- What the proofs of src/indents.rt use.
pub mod LevelsAddUp
