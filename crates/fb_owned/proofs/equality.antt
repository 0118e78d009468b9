-- What the proofs of src/equality.rt use.
pub mod EqualViewsHaveEqualParts
