-- What the proofs of src/extents.rt use.
pub mod UnknownStructTakesNothing
pub mod StructsStandAtTheirNumbers
