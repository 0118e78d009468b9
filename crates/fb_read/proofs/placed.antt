-- Elements of vectors and fields of structs, and where they lie.
pub mod PartsLieInTheirPlaces
pub mod StructFieldsRankLower
