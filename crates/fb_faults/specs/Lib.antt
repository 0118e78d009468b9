pub mod FaultTable
pub mod FaultPlaces
