-- What private contracts alone cite.
pub mod Lines
