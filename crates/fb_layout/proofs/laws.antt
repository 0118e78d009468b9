-- What the proofs of src/laws.rt use.
pub mod NextMultipleIsTheLeast
pub mod SchemaHasOneLayout
