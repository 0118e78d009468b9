-- The slots of tables.
pub mod MostSlotsBoundEachTable
pub mod NarrowTablesAreKnown
pub mod RequiredSlotsAreNumbered
pub mod SlotsAreAsManyAsFields
pub mod SlotsFollowTheirFields
