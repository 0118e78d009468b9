pub mod InOrder
pub mod OneBranchIsTaken
