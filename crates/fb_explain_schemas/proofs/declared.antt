pub mod FieldsInOrder
pub mod TypesInOrder
