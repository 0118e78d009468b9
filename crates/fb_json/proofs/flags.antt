-- What the proofs of src/flags.rt use.
pub mod WordsEndAtBlanks
