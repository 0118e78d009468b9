-- What the proofs of src/stored.rt use.
pub mod SlotNamesItsPlace
pub mod StoredIsTheEntry
