-- The texts of a value.
pub mod TreeTextsAreUtf8
pub mod ValueTextsAreUtf8
