-- What the proofs of src/json_texts.rt use.
pub mod PrintedIsTheJsonText
