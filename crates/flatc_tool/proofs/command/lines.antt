-- What the proofs of src/command/lines.rt use.
pub mod NamesAreShort
