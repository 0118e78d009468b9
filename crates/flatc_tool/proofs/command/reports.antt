-- What the proofs of src/command/reports.rt use.
pub mod WriterHasALineOrItsFront
