-- What the proofs of src/members.rt use.
pub mod UnionHasACode
