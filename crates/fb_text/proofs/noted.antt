-- What the proofs of src/noted.rt use.
pub mod FrontGrows
pub mod WrittenStands
pub mod PiecesAddUp
