pub mod Known
pub mod Limits
pub mod Namers
pub mod Naming
pub mod inner
