-- What private contracts alone cite.
pub mod Hits
pub mod Marks
pub mod Sorting
