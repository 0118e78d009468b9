-- What the proofs of src/namespaces/ use.
pub mod WordsOf
pub mod WordsSplit
pub mod PathsNamed
pub mod PathsGrown
pub mod PathsLeft
pub mod LastWordMoves
pub mod MapsKept
pub mod MapsMade
pub mod NamedTypesKept
