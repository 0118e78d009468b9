-- What the proofs of src/command/heard.rt use.
pub mod ReaderHadWhatItGave
