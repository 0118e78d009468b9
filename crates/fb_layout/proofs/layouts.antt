-- What the proofs of src/layouts.rt use.
pub mod LayoutIsWellMadeOrRefused
pub mod SizesOrTheFirstFault
