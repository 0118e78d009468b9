-- Lemmas are below the modules that they serve: proofs/laws/ has those of src/laws.rt. Here are folders of those that
-- crates above name.
pub mod slots
pub mod texts
