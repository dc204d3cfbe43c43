pub mod Limits
pub mod Merges
pub mod inner
