-- What the proofs of src/nested.rt use.
pub mod FieldHasItsBytes
pub mod StructStandsInItsParent
