-- What the proofs of src/laws.rt use.
pub mod ComputedValueLies
pub mod EntriesFitTheirTable
pub mod EntryFitsItsSlot
pub mod ExampleUsesOnlyItsSlots
pub mod LeastFaultIsOne
pub mod NamedPlacesWithinTheLimits
pub mod NoFaultWithinTheLimits
pub mod ReachedPlacesKeepTheirRules
pub mod ValueHasLevels
pub mod ValueLiesWhereAllKeep
pub mod ValueOfAPlaceByOneStep
