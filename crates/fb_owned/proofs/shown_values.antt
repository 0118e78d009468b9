-- What the proofs of src/shown_values.rt use.
pub mod PartsAreLighter
