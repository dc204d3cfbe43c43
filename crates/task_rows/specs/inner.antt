-- What private contracts alone cite.
pub mod Listings
pub mod Sorting
