pub mod StructPaddingIsZero
