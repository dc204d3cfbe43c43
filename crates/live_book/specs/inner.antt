-- What private contracts alone cite.
pub mod Seats
pub mod Turns
