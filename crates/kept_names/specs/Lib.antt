pub mod Listings
pub mod Marking
