pub mod LineFeeds
pub mod Paths
pub mod Pending
