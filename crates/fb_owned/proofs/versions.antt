-- What the proofs of src/versions.rt use.
pub mod NewNumbersAreListedInOrder
