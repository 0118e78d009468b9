-- What the proofs of src/structs.rt use.
pub mod FieldsStandAtLeastMultiples
pub mod KindsTakeTheirExactSizes
pub mod OneStepMore
pub mod SmallStructsAreKnown
pub mod StructNeedsOnlyLowerOnes
