pub mod Families
pub mod Patterns
pub mod inner
