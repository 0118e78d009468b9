-- What the proofs of src/listing.rt use.
pub mod FaultIsListed
