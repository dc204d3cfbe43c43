-- What private contracts alone cite.
pub mod Naming
pub mod Numbering
pub mod Orders
