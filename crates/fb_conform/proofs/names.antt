-- What the proofs of src/names.rt use.
pub mod NamesHaveOneSlot
pub mod MovedNamesAreFound
