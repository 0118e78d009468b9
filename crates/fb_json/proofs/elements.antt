-- What the proofs of src/elements.rt use.
pub mod NumberIsMeant
pub mod ReadValueFitsItsPlace
pub mod StructsAreObjects
