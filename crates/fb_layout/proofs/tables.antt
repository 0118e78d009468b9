-- What the proofs of src/tables.rt use.
pub mod OneTypeMore
