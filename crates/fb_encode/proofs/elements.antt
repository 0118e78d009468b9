pub mod ElementsAreNoted
pub mod InlineVectorIsNoted
