-- What private contracts alone cite.
pub mod Adding
pub mod MessageSets
pub mod NamedSets
pub mod Finding
