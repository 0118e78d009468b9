-- What the proofs of src/rules.rt use.
pub mod InlineEndsWithinTheBytes
