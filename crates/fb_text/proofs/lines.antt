-- What the proofs of src/lines.rt use.
pub mod MemberLineHasPieces
pub mod LinesAreFronts
