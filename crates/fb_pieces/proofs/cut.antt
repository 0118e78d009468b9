-- What the proofs of src/cut.rt use.
pub mod PiecesFollowOneAnother
