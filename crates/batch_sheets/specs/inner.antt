-- What private contracts alone cite.
pub mod Growth
pub mod Judging
