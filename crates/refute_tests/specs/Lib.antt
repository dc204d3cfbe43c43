pub mod Clearing
pub mod Survivors
pub mod inner
