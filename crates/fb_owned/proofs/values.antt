-- What the proofs of src/values.rt use.
pub mod FrontsGrow
