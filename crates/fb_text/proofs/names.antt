-- What the proofs of src/names.rt use.
pub mod NameAtItsPlace
pub mod TypeAtItsNumber
