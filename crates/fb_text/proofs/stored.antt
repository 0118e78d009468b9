-- What the proofs of src/stored.rt use.
pub mod DefaultsAreNotPrinted
pub mod NoneBehindTheLast
pub mod PlainSlotsHaveNoUnions
