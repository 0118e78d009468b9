-- What the proofs of the calls that list differences use.
pub mod ListsHaveEachDifference
