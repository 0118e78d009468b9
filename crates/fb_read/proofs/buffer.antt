-- What the proofs of src/buffer.rt use.
pub mod AlignmentsArePositive
