-- What the proofs of src/absent.rt use.
pub mod SlotNeedsNothing
