pub mod OffsetsAreTrimmed
pub mod OpenFieldsAreAdded
pub mod SizesOfWhatIsStored
pub mod StoredFieldsFit
