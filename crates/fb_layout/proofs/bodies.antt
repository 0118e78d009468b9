-- What the proofs of src/bodies.rt use.
pub mod BodiesStandAtTheirNumbers
