pub mod SlotsAreFound
pub mod CutObjectIsRead
pub mod NextSlotIsNoted
pub mod TextIsOfItsSlot
