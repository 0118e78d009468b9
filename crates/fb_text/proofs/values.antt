-- What the proofs of src/values.rt use.
pub mod OneMemberMore
pub mod MemberIsItsCodeAndValue
pub mod NestedStructIsAField
