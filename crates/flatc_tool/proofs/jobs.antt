-- What the proofs of src/jobs.rt use.
pub mod RefusedUnderTheSchema
