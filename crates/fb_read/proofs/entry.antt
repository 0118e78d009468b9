-- What the proofs of src/entry.rt use.
pub mod EntryIsWhatWasFound
