-- What the proofs of src/slot_members.rt use.
pub mod FewOrMany
pub mod MemberIsAllowed
pub mod MemberIsPutAtItsSlot
