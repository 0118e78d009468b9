-- What the proofs of src/places.rt use.
pub mod AbsentSlotNamesNoPlace
pub mod FieldsAreTheirSlots
pub mod ZeroBytesNameNoPlace
