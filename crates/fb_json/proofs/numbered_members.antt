-- What the proofs of src/numbered_members.rt use.
pub mod OneMoreIsNumbered
