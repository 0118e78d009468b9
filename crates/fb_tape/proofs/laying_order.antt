pub mod AlignmentsFall
pub mod AllIsInOrder
pub mod NotesFollowTheOrder
pub mod LowAlignmentsAreLeft
