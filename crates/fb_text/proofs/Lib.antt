-- Lemmas are below the modules that they serve: proofs/nested/ has those of src/nested.rt. Here is a folder of those that
-- crates above name.
pub mod texts
