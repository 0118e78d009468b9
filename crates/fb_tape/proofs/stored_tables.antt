pub mod FieldsInTurn
pub mod OpenFieldsAreStored
mod OffsetsAreTold
mod SlotsAreTold
mod TableIsNoted
mod OffsetsArePut
