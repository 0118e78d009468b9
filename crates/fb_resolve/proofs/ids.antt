-- What the proofs of src/ids.rt use.
pub mod TwiceAmongNumbers
