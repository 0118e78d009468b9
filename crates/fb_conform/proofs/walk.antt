-- What the proofs of src/walk.rt use.
pub mod EachBreachHasItsPlace
pub mod DifferencesAreReportedInOrder
pub mod OtherBreachesAreKept
pub mod EachPlaceIsWalked
