pub mod Covers
pub mod Known
pub mod Listings
pub mod Progress
