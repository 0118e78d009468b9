-- What the proofs of src/laws.rt use.
pub mod ComputedEntryIsMeant
pub mod ComputedValueIsMeant
pub mod EachStepOfABindSucceeds
pub mod EntriesSpendTheirCells
pub mod FaultIsABrokenRule
pub mod FaultOfALeafIsABrokenRule
pub mod FaultOfAnEntryIsABrokenRule
pub mod LeavesSpendTheirCells
pub mod LimitFaultIsOverTheLimit
pub mod MeantLeafIsComputed
pub mod MeantValueIsComputed
pub mod MeantValueIsWhole
pub mod SlotsSpendTheirCells
