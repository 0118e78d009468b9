-- What the proofs of src/json_texts.rt use.
pub mod NumberIsReadByItsSign
pub mod TextIsReadWithoutATree
pub mod TextHasFewTokens
pub mod ArrayIsReadByItsElements
