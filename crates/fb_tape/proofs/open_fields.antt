pub mod FieldsStandInTurn
pub mod SizesFit
