-- What the proofs of src/noting.rt use.
pub mod ElementsAreNoted
pub mod PartsFitTheirSlots
pub mod SlotsAreNoted
