-- What private contracts alone cite.
pub mod Graces
pub mod InputReadings
pub mod Leaving
pub mod Listing
pub mod Traces
