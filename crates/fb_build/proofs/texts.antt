pub mod TextFollowsItsCount
