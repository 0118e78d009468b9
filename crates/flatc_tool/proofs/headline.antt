-- What the proofs of src/headline.rt use.
pub mod BytesHoldAValueOrAreRefused
pub mod ConformingTextsFollowEachOther
pub mod OldTextsMeanTheCarriedValue
pub mod OtherJsonHasAFirstFault
