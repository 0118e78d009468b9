pub mod PiecesAreRead
pub mod MembersAreInTheText
pub mod OneMemberMore
pub mod TextsAreAtTheirSlots
pub mod NextMemberIsPut
