-- Values and their types.
pub mod EachVariantHasItsView
pub mod NestingIsBoundedByDepth
pub mod PartsAreListed
pub mod PartsByTheirIndex
pub mod StoredKindsAreResolved
pub mod ValueFitsPartByPart
