-- What private contracts alone cite.
pub mod Adding
pub mod Stays
pub mod Tables
pub mod Traces
