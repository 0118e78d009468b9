-- What the proofs of src/root.rt use.
pub mod MeantValueFitsTheRoot
pub mod NamedNumberIsInRange
pub mod RootMeaningDecides
