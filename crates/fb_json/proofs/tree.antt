-- What the proofs of the walk over trees use.
pub mod PartsAreReadInOrder
pub mod PathGoesThroughParts
pub mod TrailLeadsToTheFault
