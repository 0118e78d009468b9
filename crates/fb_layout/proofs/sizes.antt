-- Sizes and alignments.
pub mod AlignmentsArePowersOfTwo
pub mod EachFieldTakesAByte
pub mod StructsAreDeclared
pub mod FieldsStandInOrder
