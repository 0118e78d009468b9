pub mod RunsAreRead
pub mod ElementsFollow
pub mod RunsAreNoted
pub mod VectorIsNoted
