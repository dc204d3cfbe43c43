-- What private contracts alone cite.
pub mod Fields
pub mod FlatObjects
pub mod LinesSoFar
pub mod MoreTaken
pub mod PlainObjects
pub mod Readings
