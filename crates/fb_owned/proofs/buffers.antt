-- What the proofs of src/buffers.rt use.
pub mod RootIsNoted
