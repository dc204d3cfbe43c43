-- What private contracts alone cite.
pub mod Chains
pub mod Depths
pub mod Seats
