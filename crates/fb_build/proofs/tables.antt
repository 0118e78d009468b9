pub mod CodeSlotHasNoEntry
pub mod EachSlotAddsItsParts
pub mod EndsNameTheParts
pub mod TableFitsItsRoom
pub mod TableHasItsFields
pub mod TableHasNoSlack
pub mod TableLeadsToItsTargets
pub mod TableReachesItsTargets
