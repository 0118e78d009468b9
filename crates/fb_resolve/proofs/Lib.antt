pub mod Behind
pub mod PlacesTaken
pub mod InOrder
pub mod PathsKept
pub mod ValuesOfTypes
pub mod NativeNames
