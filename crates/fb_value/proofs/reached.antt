-- What is reached from a place.
pub mod CellsAreThoseReached
pub mod EachTableIsReached
pub mod PathsAreInOrder
pub mod ReachedPlacesAreSettled
pub mod StepsLeadForward
