-- What the proofs of src/structs.rt use.
pub mod OneFieldMore
