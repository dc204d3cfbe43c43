-- What private contracts alone cite.
pub mod Listings
pub mod Reducing
pub mod Sorting
