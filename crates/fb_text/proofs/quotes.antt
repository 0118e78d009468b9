-- What the proofs of src/quotes.rt use.
pub mod EscapeGoesByStretches
