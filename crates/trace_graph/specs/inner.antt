-- What private contracts alone cite.
pub mod Keys
pub mod Successors
