-- What the proofs of src/carried_values.rt use.
pub mod EntriesAreCarriedInOrder
