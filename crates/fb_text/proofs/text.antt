-- What the proofs of src/text.rt use.
pub mod TextIsPrintedWhole
