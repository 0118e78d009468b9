-- What the proofs of src/view.rt use.
pub mod AccessorsReadTheEntry
pub mod EachSortHasItsClass
pub mod ViewHasAVtable
pub mod ViewsAreWithinTheBuffer
pub mod WholeViewsHaveWholeChildren
