pub mod TextInBrackets
pub mod RunIsCounted
