-- Bytes in front of which others are laid.
pub mod SameBytesHoldTheSameFurtherOn
pub mod SameBytesReadTheSameFurtherOn
pub mod TailsAreKeptInFront
