-- What the proofs of src/evolution.rt use.
pub mod BreachExcludesConforming
pub mod FirstListedIsTheFirstMoved
