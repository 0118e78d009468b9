-- What the proofs of src/twins.rt use.
pub mod TypesAreFoundByTheirNames
