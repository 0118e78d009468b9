pub mod SlotStoresNothing
pub mod PresentEntryIsNoted
