pub mod AlignmentsFit
pub mod DataIsLaid
pub mod OneMoreIsLaid
pub mod ReferencesAreLaid
pub mod RoomsAreSummedUp
mod TableIsLaid
