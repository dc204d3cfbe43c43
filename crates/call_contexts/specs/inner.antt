-- What private contracts alone cite.
pub mod LikeKeys
pub mod Numbering
pub mod TitleKeys
