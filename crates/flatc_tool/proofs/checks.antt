-- What the proofs of src/checks.rt use.
pub mod RefusedBytesAreUnsound
