pub mod TreesByTheirKind
pub mod TextIsNoted
pub mod ArrayIsNoted
