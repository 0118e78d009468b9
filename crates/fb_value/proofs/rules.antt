-- The rules of places, and the first that fails.
pub mod ComputedFaultIsTheLeast
pub mod FaultOfAPlaceByOneStep
pub mod FirstMissingSlotIsRequired
pub mod RulesHoldOneByOne
pub mod UnusedSlotHasNoPlace
