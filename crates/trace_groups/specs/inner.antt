-- What private contracts alone cite.
pub mod Names
pub mod Counts
