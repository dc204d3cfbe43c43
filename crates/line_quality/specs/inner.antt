-- What private contracts alone cite.
pub mod FirstLines
pub mod Sorting
