-- What the proofs of src/reader.rt use.
pub mod FaultsAreNoMemory
pub mod RootValueIsHeld
