pub mod AlikeTreesFillASlotAlike
pub mod SlotIsNotedByItsStandIn
pub mod ValueIsNotedByItsStandIn
pub mod FieldsArePut
pub mod OwnFieldsMeanTheSame
