-- What the proofs of src/laws.rt use.
pub mod ReachedPartsAreThoseOfTheValue
