-- What private contracts alone cite.
pub mod Filing
pub mod Numbering
pub mod Slots
