-- What private contracts alone cite.
pub mod Adding
pub mod Labels
