-- What the proofs of src/flags.rt and of src/numbers.rt use.
pub mod NoBitsHaveNoNames
pub mod LowestBit
pub mod LowBits
pub mod LowBitsAreNamed
