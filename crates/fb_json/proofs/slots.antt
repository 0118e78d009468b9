-- Slots, fields and elements that are read one after the other.
pub mod CodeSlots
pub mod EntryIsWhatTheLookUpFinds
pub mod LookUpFindsMembers
pub mod MemberAtItsSlot
pub mod MembersWithTheirMeaning
pub mod NamedSlotIsFound
pub mod OneSlotOrFieldMore
pub mod PartsNestLess
pub mod SlotsDecideTheTable
