-- What private contracts alone cite.
pub mod Circles
pub mod EntryKeys
pub mod Ids
pub mod Numbering
